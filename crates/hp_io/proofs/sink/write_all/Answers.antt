use Rattle.std.proofs.Common.{◌∙◌, arith}
use Rattle.hp_io.proofs.Told.{append_known-take}
use Rattle.hp_io.proofs.sink.write_all.Goals as goal

pub loop-at-preserved : goal.loop-at-preserved
loop-at-preserved g c = record {
  within = omega (arith, c.in_ok-at.ensures.within);
  told = append_known-take _ _ _ _ _ _ c.loop-at.invariant.told c.in_ok-at.ensures.first;
  counted = c.in_ok-at.ensures.counted ∙ c.loop-at.invariant.counted;
}

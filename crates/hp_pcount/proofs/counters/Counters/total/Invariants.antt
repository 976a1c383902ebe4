use Rattle.std.proofs.Common.{◌≡◌, take}
use Rattle.std.specs.Prelude.{◌+ℤ◌, fold}
use Rattle.hp_pcount.proofs.counters.Counters.total.Given as goal

abbrev pub invariant-loop-part : goal.invariant-loop-part
invariant-loop-part l = l.total ≡ fold ◌+ℤ◌ l.self.base (take l.part-index l.part-items)

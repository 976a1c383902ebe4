use Rattle.std.proofs.Common.{arith, ◌≡◌, None, [], refl}
use Rattle.hp_print.proofs.FirstTally as first
use Rattle.hp_print.proofs.Loops.{one_more_same}
use Rattle.hp_print.proofs.processor_tally.ProcessorTally.new.Goals as goal

pub returns : goal.returns
returns c =
    let all : c.loop.counter ≡ c.args.possible = omega arith in
    first.first_processors c.args.possible _ c.in_ok-settled.ensures (rw (← all) c.loop.invariant.targets_are)
    (rw (← all) c.loop.invariant.keys_are)

pub loop-preserved : goal.loop-preserved
loop-preserved c = record {
  targets_are =
      one_more_same None None c.loop.counter c.loop.targets.items c.push.new.self.items c.loop.invariant.targets_are
      c.in_ok-push.ensures.items refl;
  keys_are =
      one_more_same [] c.new.result c.loop.counter c.loop.keys.items c.push-in-loop.new.self.items
      c.loop.invariant.keys_are c.in_ok-push-2.ensures.items c.new.ensures;
}

use Rattle.std.proofs.Common.{arith, rules, refl, ◌≡◌, None, []}
use Rattle.hp_print.proofs.FirstTally as first
use Rattle.hp_print.proofs.Loops.{one_more_same}
use Rattle.hp_print.proofs.state_tally.StateTally.new.Goals as goal

pub returns : goal.returns
returns c = λ head.
    let all : c.loop.counter ≡ 201 = omega arith in
    first.first_states head 201 _ refl (rw all at c.loop.invariant.subs_are)
    (rw all at c.loop.invariant.insts_are) (search rules) (search rules)

pub loop-preserved : goal.loop-preserved
loop-preserved c = record {
  subs_are =
      one_more_same None None c.loop.counter c.loop.subs.items c.push.new.self.items c.loop.invariant.subs_are
      c.in_ok-push.ensures.items refl;
  insts_are =
      one_more_same [] c.new.result c.loop.counter c.loop.insts.items c.push-in-loop.new.self.items
      c.loop.invariant.insts_are c.in_ok-push-2.ensures.items c.new.ensures;
}

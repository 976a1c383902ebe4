use Rattle.std.proofs.Common.{arith}
use Rattle.hp_script.proofs.GeneratedLoops.{actors_begun, actor_goes_on, actors_done}
use Rattle.hp_script.proofs.generator.append_actors.Goals as goal

pub loop-number-init : goal.loop-number-init
loop-number-init c =
    actors_begun c.args.size c.args.draws.now.state c.append_all_drawn.new.draws.state c.args.out.now.items c.append_actor.new.out.items c.append_setups.new.out.items c.append_all_drawn.new.out.items
    c.in_ok-append_all_drawn.ensures.state c.in_ok-append_actor.ensures c.in_ok-append_setups.ensures c.in_ok-append_all_drawn.ensures.text

pub loop-number-preserved : goal.loop-number-preserved
loop-number-preserved c =
    actor_goes_on c.args.size c.loop-number.number c.loop-number.draws.state c.append_all_drawn-in-loop-number.new.draws.state _
    c.loop-number.out.items c.append_actor-in-loop-number.new.out.items c.append_all_drawn-in-loop-number.new.out.items
    c.loop-number-test.true c.in_ok-append_all_drawn-2.ensures.state c.in_ok-append_actor-2.ensures c.in_ok-append_all_drawn-2.ensures.text c.loop-number.invariant

pub returns : goal.returns
returns c =
    actors_done c.args.size c.loop-number.number c.loop-number.draws.state _ c.loop-number.out.items (λ lt. omega (arith, lt, c.loop-number-test.false)) c.loop-number.invariant

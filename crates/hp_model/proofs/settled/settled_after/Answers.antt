use Rattle.std.proofs.Common.{take, refl}
use Rattle.hp_model.specs.Walks.{walk}
use Rattle.hp_model.specs.Settled.{settled}
use Rattle.hp_model.proofs.Slow.{settled_next, walk_next}
use Rattle.hp_model.proofs.settled.settled_after.Goals as goal

pub loop-event-init : goal.loop-event-init
unfolding settled walk
loop-event-init c = (c.first_state.ensures, refl)

pub loop-event-preserved : goal.loop-event-preserved
loop-event-preserved c =
    let xs = c.args.events.now in
    let j = c.loop-event.event-index in
    let inv = c.loop-event.invariant in
    let f = c.after-standing.ensures in (
      settled_next c.args.cpu xs j _ c.loop-event.standing.at _ c.loop-event-test.true inv.0 (f.at (take j xs) inv.1),
      walk_next c.args.cpu xs j _ _ c.loop-event-test.true (f.to (take j xs) inv.1),
    )

use Rattle.std.proofs.Common.{refl, take}
use Rattle.hp_model.specs.Registrations.{registration}
use Rattle.hp_model.specs.Registered.{registered}
use Rattle.hp_model.proofs.Slow.{at_begin, at_end, at_other}
use Rattle.hp_model.proofs.registered.registered_at.Goals as goal
use Rattle.hp_model.proofs.registered.registered_at.Goals.{in-RegBegin, in-RegEnd+in_ok-found-in-RegEnd, in_default}

pub loop-event-init : goal.loop-event-init
unfolding registered registration
loop-event-init c = (refl, refl)

pub loop-event-preserved : goal.loop-event-preserved
loop-event-preserved c =
    let i = c.loop-event.invariant in
    let s = c.args.state in
    let xs = c.args.events.now in
    let j = c.loop-event.event-index in
    let h = c.loop-event-test.true in
    elim c.match-event.branch [
      | in-RegBegin w ↦
          let q = at_begin c.args.head.now s xs j _ _ _ _ h w.in-RegBegin.is in
          (rw (w.found-is, q.0) i.0, rw (w.asked-is, q.1) refl)
      | in-RegEnd+in_ok-found-in-RegEnd w ↦
          let q = at_end c.args.head.now s xs j _ _ _ h w.in-RegEnd.is in
          let e = w.in_ok-found-in-RegEnd.ensures (registration (take j xs)) i.1 in
          (rw (w.found-is, q.0, ← i.0) e, rw (w.asked-is, q.1) refl)
      | in_default w ↦
          let q = at_other c.args.head.now s xs j _ h w.in_default.not-RegBegin w.in_default.not-RegEnd in
          (rw (w.found-is, q.0) i.0, rw (w.asked-is, q.1) i.1)
    ]

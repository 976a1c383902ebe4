use Rattle.std.proofs.Common.{◌≡◌, sym, subst}
use Rattle.hp_event.specs.declared.event.Event.{Event}
use Rattle.hp_model.specs.Needs.{need, taken}
use Rattle.hp_machine.proofs.machine.Machine.room_taken.Goals as goal

pub returns-in-WalkBegin : goal.returns-in-WalkBegin
returns-in-WalkBegin g c =
    let m = c.args.self.now in
    let x = c.in-WalkBegin in
    subst (λ (e : Event). c.room_of_walk.result ≡ taken (need m.head m.events e)) (sym x.is) (c.room_of_walk.ensures x.seat x.cpu)

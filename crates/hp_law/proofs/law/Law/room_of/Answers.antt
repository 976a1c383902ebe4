use Rattle.std.proofs.Common.{◌∙◌, ap, sym, subst, refl}
use Rattle.std.specs.Bool.{then_some}
use Rattle.hp_event.specs.declared.event.Event.TheVariants.{Admit, Leave}
use Rattle.hp_model.specs.Events.{is_call}
use Rattle.hp_law.specs.Law.{Taken}
use Rattle.hp_law.specs.RoomOf.{IsRoomOf}
use Rattle.hp_law.proofs.Rooms.{room_by, room_of_entry}
use Rattle.hp_law.proofs.law.Law.room_of.Goals as goal

pub returns-in-Admit : goal.returns-in-Admit
returns-in-Admit c =
    let l = c.self.inside.machine in
    let e = Admit c.in-Admit.seat c.in-Admit.role in
    let room = room_by l.head l.events e c.can_admit.result 2 c.can_admit.ensures (λ _. refl) in
    subst (λ (t : Taken). IsRoomOf t.head t.events c.args.event.now c.then_some.result) c.self.view_is
    (subst (λ x. IsRoomOf l.head l.events x c.then_some.result) (sym c.in-Admit.is)
    (subst (IsRoomOf l.head l.events e) (sym c.then_some.ensures) room))

pub returns-in-Leave : goal.returns-in-Leave
returns-in-Leave c =
    let l = c.self.inside.machine in
    let e = Leave c.in-Leave.seat in
    let room = room_by l.head l.events e c.can_leave.result 0 c.can_leave.ensures (λ _. refl) in
    subst (λ (t : Taken). IsRoomOf t.head t.events c.args.event.now c.then_some-in-Leave.result) c.self.view_is
    (subst (λ x. IsRoomOf l.head l.events x c.then_some-in-Leave.result) (sym c.in-Leave.is)
    (subst (IsRoomOf l.head l.events e) (sym c.then_some-in-Leave.ensures) room))

pub returns-in-Call : goal.returns-in-Call
returns-in-Call c =
    let t = c.args.self.now in
    let e = c.args.event.now in
    let room = room_of_entry t.head t.events e c.entry_of.result (ap is_call c.in-Call.is) c.entry_of.ensures in
    let some = ap (λ b. then_some b 0) c.is_some.ensures in
    subst (IsRoomOf t.head t.events e) (sym (c.then_some-in-Call.ensures ∙ some)) room

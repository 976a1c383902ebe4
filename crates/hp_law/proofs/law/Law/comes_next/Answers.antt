use Rattle.std.proofs.Common.{None, ◌∙◌, ap, sym, subst}
use Rattle.hp_model.specs.Subsystems.{names_sub}
use Rattle.hp_machine.specs.Next.{IsNext}
use Rattle.hp_law.specs.Law.{Taken}
use Rattle.hp_law.specs.RoomOf.{IsRoomOf}
use Rattle.hp_law.proofs.Comes.{comes_other, not_client, not_named}
use Rattle.hp_law.proofs.Rooms.{no_room, room_next}
use Rattle.hp_law.proofs.law.Law.comes_next.Goals as goal

pub returns-then-not-is_client : goal.returns-then-not-is_client
returns-then-not-is_client c =
    let l = c.self.inside.machine in
    let e = c.args.event.now in
    let other = sym c.is_client.ensures ∙ c.if-not-is_client.true in
    subst (λ (t : Taken). IsRoomOf t.head t.events e None) c.self.view_is
    (no_room l.head l.events e (not_client l.head l.events c.seat-seat.result e c.sound.ensures.lawful c.requires c.seat-seat.ensures other))

pub returns-then-not-names_sub : goal.returns-then-not-names_sub
returns-then-not-names_sub c =
    let l = c.self.inside.machine in
    let e = c.args.event.now in
    let head = sym (c.head.ensures ∙ c.journal.ensures.head) in
    let other = ap (λ h. names_sub h c.asked_by-op.result) head ∙ sym c.names_sub.ensures ∙ c.if-not-names_sub.true in
    subst (λ (t : Taken). IsRoomOf t.head t.events e None) c.self.view_is
    (no_room l.head l.events e (not_named l.head l.events c.asked_by-op.result e c.sound.ensures.lawful c.requires c.asked_by-op.ensures other))

pub returns-in-Event : goal.returns-in-Event
returns-in-Event c =
    let l = c.self.inside.machine in
    let e = c.args.event.now in
    let k = c.seat-seat.result in
    let op = c.asked_by-op.result in
    let next = subst (IsNext l.head l.events k op) c.in-Event.is c.next.ensures in
    let room = room_next l.head l.events k op e c.in-Event.next c.in-Event.need c.same.result c.sound.ensures.lawful c.requires c.seat-seat.ensures
    c.asked_by-op.ensures next c.same.ensures in
    subst (λ (t : Taken). IsRoomOf t.head t.events e c.then_some.result) c.self.view_is
    (subst (IsRoomOf l.head l.events e) (sym c.then_some.ensures) room)

pub returns-in_default : goal.returns-in_default
returns-in_default c =
    let l = c.self.inside.machine in
    let e = c.args.event.now in
    let k = c.seat-seat.result in
    let op = c.asked_by-op.result in
    subst (λ (t : Taken). IsRoomOf t.head t.events e None) c.self.view_is
    (no_room l.head l.events e (comes_other l.head l.events k op e c.next.result c.sound.ensures.lawful c.requires c.seat-seat.ensures c.asked_by-op.ensures
    c.next.ensures c.in_default.not-Event))

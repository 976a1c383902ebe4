-- What the functions of `NextEvent.antt` find of an operation is what a turn of its seat finds. This project's own.
use Rattle.std.specs.Prelude.{◌≡◌, ◌↔◌, ℕ, true, Some, None, List}
use Rattle.hp_event.specs.declared.op.Op.{Op}
use Rattle.hp_event.specs.declared.head.Head.{Head}
use Rattle.hp_event.specs.declared.event.Event.{Event}
use Rattle.hp_model.specs.Events.{seat_of}
use Rattle.hp_model.specs.Full.{IsFull}
use Rattle.hp_model.specs.Lawful.{Stands}
use Rattle.hp_model.specs.NextEvent.{next_event, is_full}
use Rattle.hp_model.specs.Pending.{Pending}
use Rattle.hp_model.specs.Turns.{IsEventFor, MakesNone}

-- an event that comes next of a seat and any operation stands, and is the seat's
abbrev pub StandsWhereNext : Head → List Event → Event → Type 0
StandsWhereNext head events e =
    (seat : ℕ) (op : Op) → next_event head events seat op ≡ Some e → Stands head events e × (seat_of e ≡ seat)

-- the event comes next exactly where it is one of the operation that can stand next
abbrev pub FindsEvent : Event → Head → List Event → Pending → Type 0
FindsEvent e head events p = (next_event head events p.seat p.op ≡ Some e) ↔ IsEventFor head events p e

-- nothing comes next exactly where the turn makes no event
abbrev pub FindsNone : Head → List Event → Pending → Type 0
FindsNone head events p = (next_event head events p.seat p.op ≡ None) ↔ MakesNone head events p

-- the first event alone says whether the operation is answered LogFull without one
abbrev pub FindsFull : Head → List Event → Pending → Type 0
FindsFull head events p = (is_full head events p.seat p.op ≡ true) ↔ IsFull head events p.seat p.op

-- Whether a seat can leave, as the rules of a journal have it. This project's own.
use Rattle.std.specs.Prelude.{ℕ, Bool, not, ◌&&◌, is_some, is_none, List}
use Rattle.hp_event.specs.declared.head.Head.{Head}
use Rattle.hp_event.specs.declared.event.Event.{Event}
use Rattle.hp_model.specs.NextEvent.{due_entry}
use Rattle.hp_model.specs.Readers.{is_reading}
use Rattle.hp_model.specs.Seats.{role_of, is_busy}

-- it is in, reads nothing, has nothing in flight, and no entry is due from it
abbrev pub can_leave : Head → List Event → (seat : ℕ) → Bool
can_leave head events k =
    is_some (role_of k events) && (not (is_reading k events) && (not (is_busy k events) && is_none (due_entry head events k)))

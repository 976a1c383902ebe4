-- What comes next, as functions: the entry that a processor's thread makes next, and the one event of a client's seat and its
-- operation that can stand next. What `Lawful.antt` says of every event, these find. This project's own.
use Rattle.std.specs.Prelude.{ℕ, Bool, true, false, not, ◌&&◌, ◌==◌, if◌then◌else◌, is_some, Option, Some, None, List, find}
use Rattle.hp_event.specs.declared.op.Op.{Op}
use Rattle.hp_event.specs.declared.answer.Answer.TheVariants.{LogFull}
use Rattle.hp_event.specs.declared.head.Head.{Head}
use Rattle.hp_event.specs.declared.event.Event.{Event}
use Rattle.hp_event.specs.declared.event.Event.TheVariants.{WalkBegin, OpEnd}
use Rattle.hp_model.specs.Events.{seat_of, is_call}
use Rattle.hp_model.specs.MapLock.{Operation, operation}
use Rattle.hp_model.specs.Seats.{is_busy}
use Rattle.hp_model.specs.Settled.{settled}
use Rattle.hp_model.specs.Sequence.{Next, walks, ends, nothing, next, is_between}
use Rattle.hp_model.specs.Waits.{wait_to_walk}
use Rattle.hp_model.specs.Room.{has_room}
use Rattle.hp_model.specs.UnderWay.{under_way}
use Rattle.hp_model.specs.FirstEvent.{first_event}

-- the entry that is due from a seat
unfoldable pub due_entry : Head → List Event → (seat : ℕ) → Option Event
due_entry head events k = find (λ e. is_call e && (seat_of e == k)) (under_way head events)

-- a walk that has no room is the end of its operation
abbrev pub walk_or_end : (room : Bool) → (seat cpu from to : ℕ) → Event
walk_or_end true k c from to = WalkBegin k c from to
walk_or_end false k c from to = OpEnd k LogFull

abbrev pub walk_begin : Head → List Event → (seat cpu from to : ℕ) → Event
walk_begin head events k c from to = walk_or_end (has_room head events (WalkBegin k c from to)) k c from to

-- the holder of the map lock begins its next walk, where it waits for nothing, or ends
abbrev pub event_of_holder : Head → List Event → (seat : ℕ) → Next → Option Event
event_of_holder head events k (walks c to) =
    if is_some (wait_to_walk events) then None else Some (walk_begin head events k c (settled c events) to)
event_of_holder head events k (ends answer) = Some (OpEnd k answer)
event_of_holder head events k nothing = None

abbrev pub next_of_holder : Head → List Event → (seat : ℕ) → Option Operation → Option Event
next_of_holder head events k None = None
next_of_holder head events k (Some o) =
    if o.seat == k && is_between o.op events
    then event_of_holder head events k (next head events o.before o.op)
    else None

abbrev pub or_else : Option Event → Option Event → Option Event
or_else None second = second
or_else (Some e) second = Some e

-- the event of its walk or its registration that is the seat's to make, or what it does between walks
abbrev pub next_in_flight : Head → List Event → (seat : ℕ) → Option Event
next_in_flight head events k =
    or_else (find (λ e. seat_of e == k) (under_way head events)) (next_of_holder head events k (operation events))

abbrev pub if_room : Head → List Event → Option Event → Option Event
if_room head events None = None
if_room head events (Some e) = if has_room head events e then Some e else None

-- the event of a seat and its operation that can stand next
unfoldable pub next_event : Head → List Event → (seat : ℕ) → Op → Option Event
next_event head events k op =
    if is_busy k events then next_in_flight head events k else if_room head events (first_event head events k op)

abbrev pub lacks_room : Head → List Event → Option Event → Bool
lacks_room head events None = false
lacks_room head events (Some e) = not (has_room head events e)

-- whether an operation is answered LogFull without an event
unfoldable pub is_full : Head → List Event → (seat : ℕ) → Op → Bool
is_full head events k op = not (is_busy k events) && lacks_room head events (first_event head events k op)

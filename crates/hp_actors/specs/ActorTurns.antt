-- What a turn of an actor makes: the event that comes next of its operation, if one does, and whether the operation is answered. This
-- project's own.
use Rattle.std.specs.Prelude.{ℕ, ◌+◌, if◌then◌else◌, Bool, false, Option, Some, None, option_map, option_to_list, List, ◌++◌, slice_get}
use Rattle.hp_event.specs.declared.op.Op.{Op}
use Rattle.hp_event.specs.declared.head.Head.{Head}
use Rattle.hp_event.specs.declared.event.Event.{Event}
use Rattle.hp_model.specs.Events.{is_answer}
use Rattle.hp_model.specs.NextEvent.{next_event, is_full}
use Rattle.hp_board.specs.Contents.{Contents}
use Rattle.hp_actors.specs.declared.actor.Actor.{Actor}
use Rattle.hp_actors.specs.Positions.{op_of}

-- an actor's first operation that isn't answered
abbrev pub asked : {H : Type 0} → Actor H → Option Op
asked actor = option_map op_of (slice_get actor.asks actor.answered)

-- where nothing comes next the operation is answered if it has no room
abbrev pub is_answered : (next : Option Event) → (full : Bool) → Bool
is_answered None full = full
is_answered (Some e) full = is_answer e

-- the event that a turn for an operation makes, if it makes one, and whether it answers the operation
abbrev pub event_for : Head → List Event → (seat : ℕ) → Option Op → Option Event
event_for head events k None = None
event_for head events k (Some op) = next_event head events k op

abbrev pub answers_for : Head → List Event → (seat : ℕ) → Option Op → Bool
answers_for head events k None = false
answers_for head events k (Some op) = is_answered (next_event head events k op) (is_full head events k op)

-- ---- of an actor on a board

-- the event that its turn makes, if it makes one
abbrev pub event_by : {H : Type 0} → Contents → (seat : ℕ) → Actor H → Option Event
event_by b k actor = event_for b.head b.events k (asked actor)

-- the journal with it
abbrev pub events_after : {H : Type 0} → Contents → (seat : ℕ) → Actor H → List Event
events_after b k actor = b.events ++ option_to_list (event_by b k actor)

-- how many of its operations are answered after its turn
abbrev pub answered_after : {H : Type 0} → Contents → (seat : ℕ) → Actor H → ℕ
answered_after b k actor = actor.answered + (if answers_for b.head b.events k (asked actor) then 1 else 0)

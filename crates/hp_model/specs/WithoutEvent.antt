-- Operations that are answered without an event: LogFull, where a first event has no room. How many turns of a run answer one of
-- an actor so. This project's own.
use Rattle.std.specs.Prelude.{ℕ, ◌+◌, Bool, false, ◌&&◌, ◌==◌, if◌then◌else◌, Option, Some, None, List, [], ◌∷◌, length}
use Rattle.hp_event.specs.declared.op.Op.{Op}
use Rattle.hp_event.specs.declared.head.Head.{Head}
use Rattle.hp_event.specs.declared.event.Event.{Event}
use Rattle.hp_model.specs.Processors.{present}
use Rattle.hp_model.specs.NextEvent.{is_full}
use Rattle.hp_model.specs.ScriptTurns.{RunState, unanswered, turn}

abbrev pub is_without_room : Head → List Event → (seat : ℕ) → Option Op → Bool
is_without_room head events k None = false
is_without_room head events k (Some op) = is_full head events k op

-- whether the turn of a seat answers an operation of the actor without an event
abbrev pub answers_without_event : Head → (actors : List (List Op)) → RunState → (seat actor : ℕ) → Bool
answers_without_event head actors at k i =
    (k == length (present head) + i) && is_without_room head at.events k (unanswered actors at.answers i)

-- how many turns of some seats do
unfoldable pub answered_without_event : Head → (actors : List (List Op)) → RunState → (seats : List ℕ) → (actor : ℕ) → ℕ
answered_without_event head actors at [] i = 0
answered_without_event head actors at (k ∷ ks) i =
    (if answers_without_event head actors at k i then 1 else 0)
    + answered_without_event head actors (turn head actors at k) ks i

-- Turns of a script's actors: how far a run is, and what a turn of a seat makes of it. The turn of a processor's thread makes its
-- entry, that of an actor what comes next of its first operation that isn't answered. This project's own.
use Rattle.std.specs.Prelude.{ℕ, ◌+◌, ◌-◌, Bool, nat_lt, if◌then◌else◌, Option, Some, None, List, [], ◌∷◌, ◌++◌, length, get_or, set, slice_get, fold}
use Rattle.hp_event.specs.declared.op.Op.{Op}
use Rattle.hp_event.specs.declared.head.Head.{Head}
use Rattle.hp_event.specs.declared.event.Event.{Event}
use Rattle.hp_model.specs.Processors.{present}
use Rattle.hp_model.specs.Events.{is_answer}
use Rattle.hp_model.specs.Tasks.{first_unanswered}
use Rattle.hp_model.specs.NextEvent.{due_entry, next_event, is_full}

-- the events so far, and of each actor how many operations are answered, those too that are answered without an event
pub record RunState : Type 0 where
  pub events : List Event
  pub answers : List ℕ

-- the first operation of an actor that isn't answered
abbrev pub unanswered : (actors : List (List Op)) → (answers : List ℕ) → (actor : ℕ) → Option Op
unanswered actors answers i = first_unanswered (slice_get actors i) (get_or answers i 0)

abbrev pub counted : (actor : ℕ) → (answered : Bool) → (answers : List ℕ) → List ℕ
counted i answered answers = if answered then set answers i (get_or answers i 0 + 1) else answers

abbrev pub after_entry : Option Event → RunState → RunState
after_entry None at = at
after_entry (Some e) at = record { events = at.events ++ e ∷ []; answers = at.answers }

-- an event, or an answer without one, or nothing
abbrev pub after_event : (actor : ℕ) → Option Event → (full : Bool) → RunState → RunState
after_event i None full at = record { events = at.events; answers = counted i full at.answers }
after_event i (Some e) full at =
    record { events = at.events ++ e ∷ []; answers = counted i (is_answer e) at.answers }

abbrev pub after_asking : Head → (seat actor : ℕ) → Option Op → RunState → RunState
after_asking head k i None at = at
after_asking head k i (Some op) at = after_event i (next_event head at.events k op) (is_full head at.events k op) at

-- the seats of the present processors come first, and then one for each actor; a number that is no seat does nothing
abbrev pub turn : Head → (actors : List (List Op)) → RunState → (seat : ℕ) → RunState
turn head actors at k =
    if nat_lt k (length (present head))
    then after_entry (due_entry head at.events k) at
    else after_asking head k (k - length (present head)) (unanswered actors at.answers (k - length (present head))) at

unfoldable pub after_turns : Head → (actors : List (List Op)) → RunState → (seats : List ℕ) → RunState
after_turns head actors at seats = fold (turn head actors) at seats

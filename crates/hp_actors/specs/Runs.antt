-- How far the run of a script is: at its start, after turns of some seats or of a schedule, and at its end. This project's own.
use Rattle.std.specs.Prelude.{◌≡◌, ℕ, ◌+◌, Option, List, length}
use Rattle.hp_event.specs.declared.op.Op.{Op}
use Rattle.hp_event.specs.declared.head.Head.{Head}
use Rattle.hp_hook.specs.Counted.{Counts}
use Rattle.hp_model.specs.Lists.{numbers}
use Rattle.hp_model.specs.Processors.{present}
use Rattle.hp_model.specs.Schedule.{Schedule, IsRunBy, first_turns}
use Rattle.hp_model.specs.ScriptRun.{IsRun, start, after_round}
use Rattle.hp_model.specs.ScriptTurns.{RunState, turn, after_turns}
use Rattle.hp_actors.specs.Positions.{Position}

-- no operation has begun, and the operations have these hooks
abbrev pub at_start : Head → (actors : List (List Op)) → (hooks : List (List (Option Counts))) → Position
at_start head actors hooks =
    record {
      head = head;
      actors = actors;
      progress = start head actors;
      hooks = hooks;
    }

-- how many seats there are: those of the threads, and of the actors
abbrev pub seat_count : Position → ℕ
seat_count at = length (present at.head) + length at.actors

-- how far it is after a turn of a seat
abbrev pub further : Position → (seat : ℕ) → RunState
further at k = turn at.head at.actors at.progress k

-- a turn of the seat makes nothing
abbrev pub StaysAfter : Position → (seat : ℕ) → Type 0
StaysAfter at k = further at k ≡ at.progress

-- after turns of these seats, one after the other
abbrev pub further_by : Position → (seats : List ℕ) → RunState
further_by at seats = after_turns at.head at.actors at.progress seats

-- the run after a turn of each thread's seat
abbrev pub after_threads : Position → Position
after_threads at = record at { progress = further_by at (numbers (length (present at.head))) }

-- how far it is after the first turns of a schedule
abbrev pub further_on : Position → Schedule → RunState
further_on at schedule = further_by at (first_turns (seat_count at) schedule)

-- after a turn of each seat
abbrev pub further_round : Position → RunState
further_round at = after_round at.head at.actors at.progress

-- turns of these seats made it, from the start on
abbrev pub IsAfterTurns : (seats : List ℕ) → Position → Type 0
IsAfterTurns seats at = at.progress ≡ after_turns at.head at.actors (start at.head at.actors) seats

-- the journal of `new` is the whole run of the script, by turns of these seats and rounds
abbrev pub IsWholeRun : (seats : List ℕ) → (old new : Position) → Type 0
IsWholeRun seats old new = IsRun old.head old.actors seats new.progress.events

-- and by a schedule
abbrev pub IsWholeRunBy : Schedule → (old new : Position) → Type 0
IsWholeRunBy schedule old new = IsRunBy old.head old.actors schedule new.progress.events

-- The schedule of a script: whose turns come before the closing rounds, and the run by it. This project's own.
use Rattle.std.specs.Prelude.{ℕ, ◌+◌, List, [], length}
use Rattle.hp_event.specs.declared.op.Op.{Op}
use Rattle.hp_event.specs.declared.head.Head.{Head}
use Rattle.hp_event.specs.declared.event.Event.{Event}
use Rattle.hp_model.specs.Processors.{present}
use Rattle.hp_model.specs.Draws.{draws}
use Rattle.hp_model.specs.ScriptRun.{IsRun}

-- closing rounds alone, or first turns of the seats of a list, or first so many turns of seats that are drawn from a seed
pub data Schedule : Type 0 where
  rounds : Schedule
  turns : (seats : List ℕ) → Schedule
  mix : (seed count : ℕ) → Schedule

-- the seats of the turns before the closing rounds, where a script has so many seats
abbrev pub first_turns : (seats : ℕ) → Schedule → List ℕ
first_turns m rounds = []
first_turns m (turns seats) = seats
first_turns m (mix seed count) = draws m seed count

-- the journal is the run of a script by its schedule
abbrev pub IsRunBy : Head → (actors : List (List Op)) → Schedule → List Event → Type 0
IsRunBy head actors schedule events =
    IsRun head actors (first_turns (length (present head) + length actors) schedule) events

-- What stood before a line, in short. This project's own.
use Rattle.std.specs.Prelude.{ℕ, ◌+◌, false, if◌then◌else◌, Option, Some, None, List, [], ◌∷◌}
use Rattle.std.specs.Result.{result_ok}
use Rattle.hp_event.specs.Ops.{is_setup}
use Rattle.hp_model.specs.Scripts.{lock_step}
use Rattle.hp_script.specs.declared.before.Group.TheVariants as group
use Rattle.hp_script.specs.declared.before.Before.{Before}
use Rattle.hp_script.specs.declared.statement.Statement.{Statement}
use Rattle.hp_script.specs.declared.statement.Statement.TheVariants as says
use Rattle.hp_script.specs.Words.{words, is_skipped}
use Rattle.hp_script.specs.Statements.{statement_in}

-- before the first line
abbrev pub start : Before
start = record {
  group = group.Nothing;
  possible = 0;
  subs = 0;
  rules = 0;
  actors = 0;
  ops = 0;
  setups = 0;
  locked = false;
}

-- one more statement
abbrev pub after : Before → Statement → Before
after b (says.Cpus n) = record b { group = group.Cpus; possible = n }
after b (says.Absent ns) = record b { group = group.Absent }
after b (says.Sub sub) = record b { group = group.Subs; subs = b.subs + 1; rules = 0 }
after b (says.Rule rule) = record b { rules = b.rules + 1 }
after b (says.Schedule schedule) = record b { group = group.Schedule }
after b says.Actor = record b { group = group.Actors; actors = b.actors + 1; ops = 0; locked = false }
after b (says.Operation op) =
    record b {
      ops = b.ops + 1;
      setups = if is_setup op then b.setups + 1 else b.setups;
      locked = lock_step b.locked op;
    }

-- what a line says: nothing where it is skipped
abbrev pub statement_of : (line : List ℕ) → Option Statement
statement_of line = if is_skipped (words line) then None else result_ok (statement_in (words line))

abbrev pub after_maybe : Before → Option Statement → Before
after_maybe b None = b
after_maybe b (Some statement) = after b statement

abbrev pub after_line : Before → (line : List ℕ) → Before
after_line b line = after_maybe b (statement_of line)

abbrev pub after_lines : Before → (lines : List (List ℕ)) → Before
after_lines b [] = b
after_lines b (line ∷ lines) = after_lines (after_line b line) lines

-- what these lines are before the next
abbrev pub before : (lines : List (List ℕ)) → Before
before lines = after_lines start lines

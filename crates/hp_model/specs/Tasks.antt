-- What the turn of a seat is for, and which events are of it. This project's own.
use Rattle.std.specs.Prelude.{◌≡◌, ℕ, true, Option, Some, None, List, slice_get}
use Rattle.hp_event.specs.declared.op.Op.{Op}
use Rattle.hp_event.specs.declared.event.Event.{Event}
use Rattle.hp_model.specs.Events.{is_call, BelongsTo}

-- what a turn of a seat is for: the entries of a processor's thread, or an operation
pub data Task : Type 0 where
  entries : Task
  operation : Op → Task
  nothing : Task

abbrev pub task_of : Option Op → Task
task_of None = nothing
task_of (Some op) = operation op

-- the first operation of an actor that isn't answered
abbrev pub first_unanswered : Option (List Op) → (answers : ℕ) → Option Op
first_unanswered None n = None
first_unanswered (Some ops) n = slice_get ops n

abbrev pub IsFor : Task → Event → Type 0
IsFor entries e = is_call e ≡ true
IsFor (operation op) e = BelongsTo op e
IsFor nothing e = ⊥

-- The operation that holds the map lock, from its Enter to its OpEnd. After `cpu_maps_update_begin` and
-- `cpu_maps_update_done` of `kernel/cpu.c`.
use Rattle.std.specs.Prelude.{ℕ, Bool, is_some, Option, Some, None, List}
use Rattle.hp_event.specs.declared.op.Op.{Op}
pub use Rattle.hp_event.specs.Ops.{is_map_op}
use Rattle.hp_event.specs.declared.event.Event.{Event}
use Rattle.hp_event.specs.declared.event.Event.TheVariants.{Enter, OpEnd}
use Rattle.hp_model.specs.Journal.{over}

-- an operation that holds it: whose, which, and the events before its Enter
pub record Operation : Type 0 where
  pub seat : ℕ
  pub op : Op
  pub before : List Event

abbrev pub operation_step : Option Operation → List Event → Event → Option Operation
operation_step found before (Enter seat op) = Some (record { seat = seat; op = op; before = before })
operation_step found before (OpEnd seat answer) = None
operation_step found before _ = found

-- the operation that has entered and not ended
unfoldable pub operation : List Event → Option Operation
operation events = over operation_step None events

abbrev pub is_map_held : List Event → Bool
is_map_held events = is_some (operation events)

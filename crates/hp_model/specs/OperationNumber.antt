-- The number of an operation: its place, from 1, among the operations of its seat that have an event. This project's own.
use Rattle.std.specs.Prelude.{ℕ, ◌+◌, Bool, false, ◌==◌, if◌then◌else◌, Option, Some, None, List, [], ◌∷◌, ◌++◌}
use Rattle.hp_event.specs.Events.{seat_of}
use Rattle.hp_event.specs.declared.event.Event.{Event}
use Rattle.hp_event.specs.declared.event.Event.TheVariants.{Enter, Refused, RegBegin, ReadLock, ReadUnlock, Armed, Shown, Wakeup}
use Rattle.hp_model.specs.Journal.{over}

-- the seat whose operation has its first event here
abbrev pub begun_by : Event → Option ℕ
begun_by (Enter seat op) = Some seat
begun_by (Refused seat errno op) = Some seat
begun_by (RegBegin seat state op) = Some seat
begun_by (ReadLock seat) = Some seat
begun_by (ReadUnlock seat) = Some seat
begun_by (Armed seat cpu value) = Some seat
begun_by (Shown seat file cpu value) = Some seat
begun_by (Wakeup seat) = Some seat
begun_by _ = None

abbrev pub is_seat : (seat : ℕ) → Option ℕ → Bool
is_seat k None = false
is_seat k (Some seat) = seat == k

abbrev pub operations_step : (seat : ℕ) → ℕ → List Event → Event → ℕ
operations_step k n before event = if is_seat k (begun_by event) then n + 1 else n

-- how many operations of a seat have an event
unfoldable pub operations_of : (seat : ℕ) → List Event → ℕ
operations_of k events = over (operations_step k) 0 events

-- The number of the operation whose event follows these. The operations of a seat come one after another, so that an event
-- is of the last one that has an event by then.
abbrev pub operation_number : (before : List Event) → Event → ℕ
operation_number before event = operations_of (seat_of event) (before ++ event ∷ [])

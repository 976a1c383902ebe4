-- The numbers of operations as they are counted. This project's own.
use Rattle.std.specs.Prelude.{◌≡◌, ℕ, ◌+◌, Option, List, slice_index_or, if◌then◌else◌}
use Rattle.hp_event.specs.declared.event.Event.{Event}
use Rattle.hp_model.specs.OperationNumber.{is_seat, operations_of}
use Rattle.hp_print.specs.declared.operation_numbers.OperationNumbers.{OperationNumbers}

-- how many operations of a seat are counted
abbrev pub begun : OperationNumbers → (seat : ℕ) → ℕ
begun numbers k = slice_index_or numbers.begun.items k 0

-- and with one of this seat more, where there is one
abbrev pub begun_with : OperationNumbers → Option ℕ → (seat : ℕ) → ℕ
begun_with numbers more k = if is_seat k more then begun numbers k + 1 else begun numbers k

-- those that have an event are counted
abbrev pub IsNumbered : List Event → OperationNumbers → Type 0
IsNumbered events numbers = (seat : ℕ) → begun numbers seat ≡ operations_of seat events

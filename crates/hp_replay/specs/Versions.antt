-- The versions of the text: of which journals they have one, and what the line of an event says in each. This project's
-- own.
use Rattle.std.specs.Prelude.{ℕ, ◌≤◌, ◌==◌, nat_lt, ◌&&◌, Bool, true, Option, Some, None, List}
use Rattle.hp_states.specs.declared.limits.TheConstants.{MAX_CPUS}
use Rattle.hp_event.specs.declared.event.Event.{Event}
use Rattle.hp_event.specs.declared.event.Event.TheVariants.{Admit, Enter, Refused, OpEnd, RegBegin, RegEnd, ReadLock, ReadUnlock, Armed, Shown, Wakeup}
use Rattle.hp_event.specs.declared.head.Head.{Head}
use Rattle.hp_model.specs.Seats.{admits}
use Rattle.hp_event.specs.declared.version.Version.{Version}
use Rattle.hp_event.specs.declared.version.Version.TheVariants.{One, Two}
use Rattle.hp_model.specs.OperationNumber.{operation_number}
use Rattle.hp_replay.specs.declared.versions.TheConstants.{MAX_CPUS_OF_ONE, MAX_SEATS_OF_ONE}
use Rattle.hp_replay.specs.declared.event.NumberedEvent.{NumberedEvent}

-- the most processors
abbrev pub most_cpus : Version → ℕ
most_cpus One = MAX_CPUS_OF_ONE
most_cpus Two = MAX_CPUS

-- version 1 is of machines of so many processors and seats at most, version 2 of any
abbrev pub IsWithin : Version → Head → List Event → Type 0
IsWithin One head events = (head.possible ≤ MAX_CPUS_OF_ONE) × (admits events ≤ MAX_SEATS_OF_ONE)
IsWithin Two head events = Unit {0}

-- a seat that comes in is one of the version's
abbrev pub has_seat : Version → Event → Bool
has_seat One (Admit seat role) = nat_lt seat MAX_SEATS_OF_ONE
has_seat v event = true

-- ---- the number of an operation

-- this, where the version has it
abbrev pub number_in : Version → ℕ → Option ℕ
number_in One n = None
number_in Two n = Some n

-- as the line of an event has it
abbrev pub named_number : Version → ℕ → Event → Option ℕ
named_number v n (Enter seat op) = number_in v n
named_number v n (Refused seat errno op) = number_in v n
named_number v n (OpEnd seat answer) = number_in v n
named_number v n (RegBegin seat state op) = number_in v n
named_number v n (RegEnd seat answer) = number_in v n
named_number v n (ReadLock seat) = number_in v n
named_number v n (ReadUnlock seat) = number_in v n
named_number v n (Armed seat cpu value) = number_in v n
named_number v n (Shown seat file cpu value) = number_in v n
named_number v n (Wakeup seat) = number_in v n
named_number v n event = None

-- what the line of an event says, with this number of its operation
abbrev pub numbered_event : Version → ℕ → Event → NumberedEvent
numbered_event v n event = record { event = event; number = named_number v n event }

abbrev pub is_its_number : ℕ → Option ℕ → Bool
is_its_number n None = true
is_its_number n (Some named) = named == n

-- The line can stand after these events if its event stands: it names the number of the event's operation, and the version
-- has the seat.
abbrev pub is_numbered : Version → (before : List Event) → NumberedEvent → Bool
is_numbered v before said = is_its_number (operation_number before said.event) said.number && has_seat v said.event

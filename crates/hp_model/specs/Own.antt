-- What is a seat's own among the entries: those of the operation or the registration that it has in flight. This project's own.
use Rattle.std.specs.Prelude.{ℕ, if◌then◌else◌, is_some, List, [], ◌∷◌, ◌++◌}
use Rattle.hp_event.specs.declared.event.Event.{Event}
use Rattle.hp_event.specs.declared.event.Event.TheVariants.{Enter, Call}
use Rattle.hp_model.specs.Journal.{over}
use Rattle.hp_model.specs.Entries.{codes_of_faults}
use Rattle.hp_model.specs.MapLock.{operation}
use Rattle.hp_model.specs.Registrations.{registration, registration_entries}
use Rattle.hp_model.specs.Seats.{holds_map, registers}
use Rattle.hp_model.specs.Walks.{walk}

abbrev pub operation_entries_step : List Event → List Event → Event → List Event
operation_entries_step found before (Enter seat op) = []
operation_entries_step found before (Call seat cpu state inst dir how) =
    if is_some (walk cpu before) then found ++ Call seat cpu state inst dir how ∷ [] else found
operation_entries_step found before _ = found

-- the entries of walks since the last Enter: those of the operation in flight, whoever made them
unfoldable pub operation_entries : List Event → List Event
operation_entries events = over operation_entries_step [] events

-- the entries of what a seat has in flight, since its Enter or its RegBegin
abbrev pub own_entries : (seat : ℕ) → List Event → List Event
own_entries k events =
    (if holds_map k (operation events) then operation_entries events else [])
    ++ (if registers k (registration events) then registration_entries events else [])

-- the codes of the faults among them
abbrev pub own_faults : (seat : ℕ) → List Event → List ℕ
own_faults k events = codes_of_faults (own_entries k events)

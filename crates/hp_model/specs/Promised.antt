-- How many events are promised to what is under way, so that a full journal cuts nothing off: to each seat its leave,
-- to what holds the map lock its end, to each reader its unlock, and to walks and registrations what is left of what
-- they took. This project's own.
use Rattle.std.specs.Prelude.{ℕ, ◌+◌, ◌-◌, ◌&&◌, if◌then◌else◌, Option, Some, None, List, length, sum_by}
use Rattle.hp_states.specs.declared.limits.TheConstants.{ONLINE}
use Rattle.hp_event.specs.declared.head.Head.{Head}
use Rattle.hp_event.specs.declared.event.Event.{Event}
use Rattle.hp_event.specs.declared.event.Event.TheVariants.{WalkEnd, RegEnd}
use Rattle.hp_model.specs.Lists.{among, numbers}
use Rattle.hp_model.specs.Walks.{Walk, walk, walk_entries}
use Rattle.hp_model.specs.Registrations.{Registration, registration, registration_entries}
use Rattle.hp_model.specs.MapLock.{Operation, operation}
use Rattle.hp_model.specs.Readers.{readers}
use Rattle.hp_model.specs.Seats.{seats}
use Rattle.hp_model.specs.Settled.{settled}
use Rattle.hp_model.specs.Batch.{to_begin, is_batch_begun}
use Rattle.hp_model.specs.Needs.{walk_need, registration_need}

abbrev pub promised_to_map : Option Operation → ℕ
promised_to_map None = 0
promised_to_map (Some o) = 1

-- what a walk took, less its WalkBegin and its entries so far
abbrev pub promised_to_walk : Head → Option Walk → (entries : List Event) → ℕ
promised_to_walk head None entries = 0
promised_to_walk head (Some w) entries = walk_need head w.before w.from w.to - (length entries + 1)

-- what an upmany that has begun a walk took for the walk of a processor that it is still to begin
abbrev pub promised_to_come : Head → List Event → (cpu : ℕ) → ℕ
promised_to_come head events c =
    if is_batch_begun events && among c (to_begin head events) then walk_need head events (settled c events) ONLINE else 0

-- what a registration took, less its RegBegin and its entries so far
abbrev pub promised_to_registration : Head → Option Registration → (entries : List Event) → ℕ
promised_to_registration head None entries = 0
promised_to_registration head (Some r) entries = registration_need head - (length entries + 1)

-- the walks of all processors together, those in flight and those to come
unfoldable pub promised_to_walks : Head → List Event → ℕ
promised_to_walks head events =
    sum_by (λ c. promised_to_walk head (walk c events) (walk_entries c events) + promised_to_come head events c)
    (numbers head.possible)

unfoldable pub promised : Head → List Event → ℕ
promised head events =
    length (seats events)
    + promised_to_map (operation events)
    + length (readers events)
    + promised_to_walks head events
    + promised_to_registration head (registration events) (registration_entries events)

-- what a walk or a registration gives back at its end: what was promised to it, but for the end itself
abbrev pub given_back : Head → (before : List Event) → Event → ℕ
given_back head before (WalkEnd seat cpu answer) = promised_to_walk head (walk cpu before) (walk_entries cpu before) - 1
given_back head before (RegEnd seat answer) =
    promised_to_registration head (registration before) (registration_entries before) - 1
given_back head before _ = 0

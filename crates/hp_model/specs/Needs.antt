-- The room that an event takes for what it begins: for itself and for the events that have to follow it. Events that
-- take none use what was promised to what they belong to. This project's own.
use Rattle.std.specs.Prelude.{ℕ, ◌+◌, ◌*◌, if◌then◌else◌, Option, Some, None, List, length, sum_by}
use Rattle.hp_states.specs.declared.limits.TheConstants.{ONLINE}
use Rattle.hp_event.specs.declared.head.Head.{Head}
use Rattle.hp_event.specs.declared.event.Event.{Event}
use Rattle.hp_event.specs.declared.event.Event.TheVariants.{Admit, Enter, Refused, WalkBegin, RegBegin, ReadLock, Armed, Shown, Wakeup}
use Rattle.hp_model.specs.Processors.{present}
use Rattle.hp_model.specs.Registered.{keys}
use Rattle.hp_model.specs.Plan.{keys_on}
use Rattle.hp_model.specs.Lists.{is_empty}
use Rattle.hp_model.specs.MapLock.{Operation, operation}
use Rattle.hp_model.specs.Settled.{settled}
use Rattle.hp_model.specs.Suspend.{held_by}
use Rattle.hp_model.specs.Batch.{begun, is_upmany, to_begin_of}

-- three entries for each key that a walk crosses, and four events besides
abbrev pub walk_need : Head → (before : List Event) → (from to : ℕ) → ℕ
walk_need head before from to = 3 * keys_on (keys head before) from to + 4

-- what the walks of some processors to the top take
abbrev pub batch_need : Head → (before : List Event) → (cpus : List ℕ) → ℕ
batch_need head before cs = sum_by (λ c. walk_need head before (settled c before) ONLINE) cs

-- the first walk of an upmany takes what all walks of its batch take, and so the later ones take nothing
abbrev pub need_to_walk : Head → (before : List Event) → Option Operation → (from to : ℕ) → Option ℕ
need_to_walk head before o from to =
    if held_by is_upmany o
    then (if is_empty (begun before) then Some (batch_need head before (to_begin_of head o before)) else None)
    else Some (walk_need head before from to)

-- two entries for each present processor, and two events besides
abbrev pub registration_need : Head → ℕ
registration_need head = 2 * length (present head) + 2

abbrev pub need : Head → (before : List Event) → Event → Option ℕ
need head before (Admit seat role) = Some 2
need head before (Enter seat op) = Some 2
need head before (Refused seat errno op) = Some 1
need head before (WalkBegin seat cpu from to) = need_to_walk head before (operation before) from to
need head before (RegBegin seat state op) = Some (registration_need head)
need head before (ReadLock seat) = Some 2
need head before (Armed seat cpu value) = Some 1
need head before (Shown seat file cpu value) = Some 1
need head before (Wakeup seat) = Some 1
need head before _ = None

-- what an event takes of the room
abbrev pub taken : (need : Option ℕ) → ℕ
taken None = 0
taken (Some n) = n

-- Whose turn it is in an upmany. All its walks begin first. After that its seat has one event at a time: where several walks
-- have a next event that is the seat's to make, that of the walk whose last event is the earliest. This project's own.
use Rattle.std.specs.Prelude.{ℕ, Bool, true, false, ◌&&◌, ◌==◌, nat_lt, if◌then◌else◌, Option, Some, None, List, [], ◌∷◌, length, filter, find}
use Rattle.hp_event.specs.declared.head.Head.{Head}
use Rattle.hp_event.specs.declared.event.Event.{Event}
use Rattle.hp_event.specs.declared.event.Event.TheVariants.{WalkBegin, Call}
use Rattle.hp_model.specs.Journal.{over}
use Rattle.hp_model.specs.Lists.{among, numbers}
use Rattle.hp_model.specs.Events.{seat_of}
use Rattle.hp_model.specs.Walks.{walk, walking}
use Rattle.hp_model.specs.MapLock.{Operation, operation}
use Rattle.hp_model.specs.Batch.{is_upmany, to_begin}
use Rattle.hp_model.specs.NextInWalk.{next_of_walk}

abbrev pub last_step : (cpu : ℕ) → ℕ → List Event → Event → ℕ
last_step c at before (WalkBegin seat cpu from to) = if cpu == c then length before else at
last_step c at before (Call seat cpu state inst dir how) = if cpu == c then length before else at
last_step c at before _ = at

-- the place in the journal of the last event of a processor's walk
unfoldable pub last_event : (cpu : ℕ) → List Event → ℕ
last_event c events = over (last_step c) 0 events

-- whether an event is a seat's to make
abbrev pub is_by : (seat : ℕ) → Option Event → Bool
is_by k None = false
is_by k (Some e) = seat_of e == k

-- the processors in whose walks the next event is the seat's
abbrev pub own_walks : Head → List Event → (seat : ℕ) → List ℕ
own_walks head events k = filter (λ c. is_by k (next_of_walk head events c (walk c events))) (walking events)

abbrev pub earlier : (place : ℕ → ℕ) → (cpu : ℕ) → Option ℕ → ℕ
earlier place c None = c
earlier place c (Some d) = if nat_lt (place d) (place c) then d else c

-- of some processors that whose place is the lowest
abbrev pub earliest : (place : ℕ → ℕ) → List ℕ → Option ℕ
earliest place [] = None
earliest place (c ∷ cs) = Some (earlier place c (earliest place cs))

abbrev pub if_empty : List ℕ → Option ℕ → Option ℕ
if_empty [] found = found
if_empty (c ∷ cs) found = None

-- the processor with whose walk the seat of an upmany goes on: none while a walk is still to begin
unfoldable pub turn_of : Head → List Event → (seat : ℕ) → Option ℕ
turn_of head events k = if_empty (to_begin head events) (earliest (λ c. last_event c events) (own_walks head events k))

abbrev pub is_it : (cpu : ℕ) → Option ℕ → Bool
is_it c None = false
is_it c (Some d) = d == c

-- whether a seat is that of an upmany in flight
abbrev pub brings_up : (seat : ℕ) → Option Operation → Bool
brings_up k None = false
brings_up k (Some o) = o.seat == k && is_upmany o.op

-- whether a seat may make an event of the walk of a processor: the seat of an upmany in its turn, and any other always
abbrev pub has_turn : Head → List Event → (seat cpu : ℕ) → Bool
has_turn head events k c = if brings_up k (operation events) then is_it c (turn_of head events k) else true

-- the lowest processor with a walk in flight
unfoldable pub lowest_walking : Head → List Event → Option ℕ
lowest_walking head events = find (λ c. among c (walking events)) (numbers head.possible)

-- Whose turn it is in an upmany, as the account keeps it: the processors with whose walks its seat goes on, as a queue. This project's
-- own.
use Rattle.std.specs.Prelude.{◌≡◌, ◌==◌, ◌<◌, ◌≤◌, ◌&&◌, if◌then◌else◌, ℕ, Bool, true, false, not, is_some, Option, Some, None, List, [], length}
use Rattle.hp_states.specs.CpuSets.{has}
use Rattle.hp_states.specs.declared.cpu_set.CpuSet.{CpuSet}
use Rattle.hp_states.specs.declared.limits.TheConstants.{MAX_CPU_SET}
use Rattle.hp_states.specs.Sections.{is_ap_state}
use Rattle.hp_event.specs.declared.head.Head.{Head}
use Rattle.hp_event.specs.declared.event.Event.{Event}
use Rattle.hp_event.specs.declared.event.Event.TheVariants.{WalkBegin, Call, WalkEnd}
use Rattle.hp_model.specs.MapLock.{Operation, operation}
use Rattle.hp_model.specs.Suspend.{held_by}
use Rattle.hp_model.specs.Batch.{is_upmany}
use Rattle.hp_model.specs.BatchQueue.{IsQueue, from_front, at_end}
use Rattle.hp_model.specs.Lists.{among}
use Rattle.hp_suspend.specs.Turns.{Queue}
use Rattle.hp_walk.specs.Asked.{asked}
use Rattle.hp_walk.specs.After.{IsWithin}
use Rattle.hp_walk.specs.declared.step.Step.{Step}
use Rattle.hp_walk.specs.declared.step.Step.TheVariants as ask
use Rattle.hp_account.specs.declared.flights.Flight.{Flight}
use Rattle.hp_account.specs.declared.flights.Flights.{Flights}
use Rattle.hp_account.specs.declared.operation.MapOperation.{MapOperation}
use Rattle.hp_account.specs.FlightChanges.{IfWalks}
use Rattle.hp_account.specs.Places.{at_place}

-- the queue is that of the upmany in flight, and there is room in it for every processor
pub record IsTurns (head : Head) (events : List Event) (queue : Queue) : Type 0 where
  pub room : head.possible ≤ queue.room
  pub queue_is : (o : Operation) → operation events ≡ Some o → is_upmany o.op ≡ true → IsQueue head events o.seat queue.cpus
  pub empty : held_by is_upmany (operation events) ≡ false → queue.cpus ≡ []

-- whether what a walk asks for is its operation's seat's to make
abbrev pub asks_by : Step → Bool
asks_by (ask.Call key d place first) = not (is_ap_state key.state)
asks_by (ask.Ended answer) = true

abbrev pub asks_own : (keys : ℕ → List ℕ) → Option Flight → Bool
asks_own keys None = false
asks_own keys (Some flight) = asks_by (asked keys flight.walk)

-- whether a walk goes on with an entry
abbrev pub calls_by : Step → Bool
calls_by (ask.Call key d place first) = true
calls_by (ask.Ended answer) = false

abbrev pub asks_entry : (keys : ℕ → List ℕ) → Option Flight → Bool
asks_entry keys None = false
asks_entry keys (Some flight) = calls_by (asked keys flight.walk)

abbrev pub FliesWithin : (keys : ℕ → List ℕ) → Option Flight → Type 0
FliesWithin keys None = Unit {0}
FliesWithin keys (Some flight) = IsWithin keys flight.walk

-- it walks, and its walk stands among its keys
abbrev pub WalksWithin : (keys : ℕ → List ℕ) → Option Flight → Type 0
WalksWithin keys flight = IfWalks flight (λ f. IsWithin keys f.walk)

abbrev pub is_batch : Option MapOperation → Bool
is_batch None = false
is_batch (Some held) = is_upmany held.op

-- whether a walk goes on with an entry of its processor's thread
abbrev pub asks_thread : (keys : ℕ → List ℕ) → Option Flight → Bool
asks_thread keys flight = is_some flight && not (asks_own keys flight)

-- those whose thread an upmany awaits: they walk, and aren't in the queue
abbrev pub AreAwaited : (batch : Bool) → Flights → Queue → CpuSet → Type 0
AreAwaited batch f queue set = (c : ℕ) → has set c ≡ (batch && (has f.walking c && not (among c queue.cpus)))

-- there is room for a processor whose next event is the seat's
abbrev pub CanMove : (keys : ℕ → List ℕ) → (cpu : ℕ) → Flights → Queue → Type 0
CanMove keys c f queue =
    FliesWithin keys (at_place f.by_cpu.items c)
    × (asks_own keys (at_place f.by_cpu.items c) ≡ true → length (from_front c queue.cpus) < queue.room)

abbrev pub CanTurn : (keys : ℕ → List ℕ) → (batch : Bool) → Event → Flights → Queue → Type 0
CanTurn keys true (WalkBegin seat c from to) f queue = CanMove keys c f queue
CanTurn keys true (Call seat c state inst dir how) f queue = CanMove keys c f queue
CanTurn keys true (WalkEnd seat c answer) f queue = CanMove keys c f queue
CanTurn keys batch event f queue = Unit {0}

-- the walk of which an event was made is at the end of the queue, or not in it
pub record Moved (keys : ℕ → List ℕ) (cpu : ℕ) (f : Flights) (old new : Queue) : Type 0 where
  pub cpus_are : new.cpus ≡ at_end (asks_own keys (at_place f.by_cpu.items cpu)) cpu (from_front cpu old.cpus)
  pub room_is : new.room ≡ old.room

abbrev pub TurnTaken : (keys : ℕ → List ℕ) → (batch : Bool) → Event → Flights → (old new : Queue) → Type 0
TurnTaken keys true (WalkBegin seat c from to) f old new = Moved keys c f old new
TurnTaken keys true (Call seat c state inst dir how) f old new = Moved keys c f old new
TurnTaken keys true (WalkEnd seat c answer) f old new = Moved keys c f old new
TurnTaken keys batch event f old new = new ≡ old

-- the processor of an event of a walk can be in a set
abbrev pub HasPlaceInSet : Event → Type 0
HasPlaceInSet (WalkBegin seat c from to) = c < MAX_CPU_SET
HasPlaceInSet (Call seat c state inst dir how) = c < MAX_CPU_SET
HasPlaceInSet (WalkEnd seat c answer) = c < MAX_CPU_SET
HasPlaceInSet _ = Unit {0}

-- a processor is in the set where its walk goes on with a thread's entry, and all others are as before
abbrev pub Awaits : (keys : ℕ → List ℕ) → (cpu : ℕ) → Flights → (old new : CpuSet) → Type 0
Awaits keys c f old new = (d : ℕ) → has new d ≡ (if d == c then asks_thread keys (at_place f.by_cpu.items c) else has old d)

abbrev pub Awaited : (keys : ℕ → List ℕ) → (batch : Bool) → Event → Flights → (old new : CpuSet) → Type 0
Awaited keys true (WalkBegin seat c from to) f old new = Awaits keys c f old new
Awaited keys true (Call seat c state inst dir how) f old new = Awaits keys c f old new
Awaited keys true (WalkEnd seat c answer) f old new = Awaits keys c f old new
Awaited keys batch event f old new = new ≡ old

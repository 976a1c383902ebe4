-- What one event more needs of a part of the account, and what becomes of it. This project's own.
use Rattle.std.specs.Prelude.{◌≡◌, ◌<◌, ◌≤◌, ◌≢◌, ◌+◌, ◌-◌, ◌*◌, ℕ, [], ◌∷◌, ◌++◌, Bool, if◌then◌else◌, true, false, Option, None, Some, IsSome, List, length, option_map, ◌⊎◌}
use Rattle.hp_states.specs.declared.limits.TheConstants.{MAX_CPUS, MAX_CPU_SET, MAX_EVENTS, MAX_SEATS, ONLINE}
use Rattle.hp_event.specs.declared.op.Op.{Op}
use Rattle.hp_event.specs.declared.how.How.{How}
use Rattle.hp_event.specs.declared.event.Role.{Role}
use Rattle.hp_event.specs.declared.head.Head.{Head}
use Rattle.hp_event.specs.declared.event.Event.{Event}
use Rattle.hp_event.specs.declared.event.Event.TheVariants.{Admit, Leave, Enter, WalkBegin, Call, WalkEnd, OpEnd, RegBegin, RegEnd, ReadLock, ReadUnlock, Armed}
use Rattle.hp_event.specs.Ops.{is_map_op}
use Rattle.hp_model.specs.Events.{is_registration_op}
use Rattle.hp_model.specs.Lawful.{Comes, IsLawful}
use Rattle.hp_model.specs.Plan.{keys_on}
use Rattle.hp_locks.specs.declared.locks.TheConstants.{MAX_LOCKED}
use Rattle.hp_locks.specs.Holders.{Holders, reads}
use Rattle.hp_locks.specs.Waits.{wait_for_map, wait_for_writer, wait_to_write, wait_to_register}
use Rattle.hp_walk.specs.Cursor.{to_of}
use Rattle.hp_account.specs.declared.flights.Flights.{Flights}
use Rattle.hp_account.specs.declared.operation.MapOperation.{MapOperation}
use Rattle.hp_account.specs.declared.registering.Registering.{Registering}
use Rattle.hp_account.specs.declared.flights.Flight.{Flight}
use Rattle.hp_account.specs.BatchTurns.{is_batch, CanTurn, TurnTaken, HasPlaceInSet, Awaited}
use Rattle.hp_account.specs.FlightChanges.{IfWalks, IfFlies, CanGoOn, WalkBegan, WalkWentOn, WalkEnded}
use Rattle.hp_account.specs.Operations.{CountsFit, IsHeldBy}
use Rattle.hp_account.specs.Places.{at_place}
use Rattle.hp_account.specs.Processors.{ProcessorsView, IsStanding}
use Rattle.hp_account.specs.RegisteringChanges.{RegistrationBegan, RegistrationWentOn}
use Rattle.hp_account.specs.declared.account.Account.{Account}
use Rattle.hp_account.specs.After.{roll_after, holders_after, standing_after, suspension_after}
use Rattle.hp_account.specs.Seats.{SeatsView, HasPlace, HasNoThread, with_seat}
use Rattle.hp_account.specs.Suspended.{SuspendedView}

-- a lock that an event takes is free, and one that it gives back is held by its seat; a later walk of an upmany has the write side
abbrev pub CanHold : Event → Holders → Type 0
CanHold (Admit seat role) h = ⊥
CanHold (Enter seat op) h = (seat < length h.reading) × (wait_for_map h ≡ None)
CanHold (OpEnd seat answer) h = (h.map ≡ Some seat) × ((h.writer ≡ None) ⊎ (h.writer ≡ Some seat))
CanHold (WalkBegin seat cpu from to) h =
    (h.map ≡ Some seat) × (((h.writer ≡ None) × (wait_to_write h ≡ None)) ⊎ (h.writer ≡ Some seat))
CanHold (WalkEnd seat cpu answer) h = h.writer ≡ Some seat
CanHold (RegBegin seat state op) h = (seat < length h.reading) × (wait_to_register h ≡ None)
CanHold (RegEnd seat answer) h = h.registrar ≡ Some seat
CanHold (ReadLock seat) h = (seat < length h.reading) × (reads h seat ≡ false) × (wait_for_writer h ≡ None)
CanHold (ReadUnlock seat) h = (seat < length h.reading) × (reads h seat ≡ true)
CanHold _ h = Unit {0}

-- its processor is one of these
abbrev pub HasPlaceFor : Event → ProcessorsView → Type 0
HasPlaceFor (Call seat cpu state inst dir how) p = cpu < length p.armed
HasPlaceFor (WalkEnd seat cpu answer) p = cpu < length p.settled
HasPlaceFor (Armed seat cpu value) p = cpu < length p.armed
HasPlaceFor _ p = Unit {0}

-- a walk that ends is of one of these processors, and an operation that ends leaves room for one count more
abbrev pub HasRoomFor : Event → SuspendedView → Type 0
HasRoomFor (WalkEnd seat cpu answer) s = cpu < length s.frozen
HasRoomFor (OpEnd seat answer) s = s.disabled < MAX_EVENTS
HasRoomFor _ s = Unit {0}

-- the operation that holds the map lock, where a walk or an operation ends
abbrev pub IsOpOf : Event → Option MapOperation → Op → Type 0
IsOpOf (WalkEnd seat cpu answer) held op = option_map (λ h. h.op) held ≡ Some op
IsOpOf (OpEnd seat answer) held op = option_map (λ h. h.op) held ≡ Some op
IsOpOf _ held op = Unit {0}

abbrev pub CountsFitIf : Option MapOperation → Type 0
CountsFitIf None = Unit {0}
CountsFitIf (Some held) = CountsFit held.sequence

-- what takes the map lock is an operation of it, and the walks of one that holds it are counted
abbrev pub CanOperate : Event → Option MapOperation → Type 0
CanOperate (Enter seat op) held = is_map_op op ≡ true
CanOperate (WalkBegin seat cpu from to) held = cpu < MAX_CPUS
CanOperate (WalkEnd seat cpu answer) held = CountsFitIf held
CanOperate _ held = Unit {0}

abbrev pub CanEnd : Event → Flights → Type 0
CanEnd (WalkEnd seat cpu answer) f = (cpu < length f.by_cpu.items) × IsSome (at_place f.by_cpu.items cpu)
CanEnd _ f = Unit {0}

-- where the walk went that ends
abbrev pub WentTo : Event → (to : ℕ) → Flights → Type 0
WentTo (WalkEnd seat cpu answer) to f = IfWalks (at_place f.by_cpu.items cpu) (λ flight. to_of flight.walk ≡ to)
WentTo _ to f = Unit {0}

-- the room that the walk takes which begins: what its event took, or in an upmany its part of that
abbrev pub room_of_walk : (keys : ℕ → List ℕ) → (batch : Bool) → (need : ℕ) → Event → ℕ
room_of_walk keys batch need (WalkBegin seat cpu from to) = if batch then 3 * keys_on keys from to + 4 else need
room_of_walk keys batch need _ = need

-- the walk that begins, goes on or ends can
abbrev pub CanFly : (keys : ℕ → List ℕ) → (need : ℕ) → Event → Flights → Type 0
CanFly keys need (WalkBegin seat cpu from to) f =
    (cpu < length f.by_cpu.items) × (cpu < MAX_CPU_SET) × ((from ≤ ONLINE) × (to ≤ ONLINE) × (from ≢ to)) × (0 < need)
CanFly keys need (Call seat cpu state inst dir how) f = IfFlies (at_place f.by_cpu.items cpu) (CanGoOn keys how)
CanFly keys need (WalkEnd seat cpu answer) f =
    (cpu < length f.by_cpu.items) × (cpu < MAX_CPU_SET) × IfWalks (at_place f.by_cpu.items cpu) (λ flight. 0 < flight.left)
CanFly keys need _ f = Unit {0}

-- the walk of the processor, if it walks, has gone on
abbrev pub WalkWentOnIf : (flight : Option Flight) → (keys : ℕ → List ℕ) → (cpu : ℕ) → How → (old new : Flights) → Type 0
WalkWentOnIf None keys cpu how old new = new ≡ old
WalkWentOnIf (Some flight) keys cpu how old new = WalkWentOn keys cpu how old new

-- it has begun, gone on or ended, and this much of its room is given back
abbrev pub WalksChanged : (keys : ℕ → List ℕ) → (need freed : ℕ) → Event → (old new : Flights) → Type 0
WalksChanged keys need freed (WalkBegin seat cpu from to) old new = WalkBegan keys seat cpu from to need old new × (freed ≡ 0)
WalksChanged keys need freed (Call seat cpu state inst dir how) old new =
    WalkWentOnIf (at_place old.by_cpu.items cpu) keys cpu how old new × (freed ≡ 0)
WalksChanged keys need freed (WalkEnd seat cpu answer) old new = WalkEnded cpu freed old new
WalksChanged keys need freed _ old new = (new ≡ old) × (freed ≡ 0)

-- a registration that begins is an operation's at one of the states
abbrev pub CanRegister : Event → Type 0
CanRegister (RegBegin seat state op) = (is_registration_op op ≡ true) × (state ≤ ONLINE)
CanRegister (Call seat cpu state inst dir how) = cpu < MAX_CPUS
CanRegister _ = Unit {0}

abbrev pub RegistrationWentOnIf : (cpu : ℕ) → How → (old new : Option Registering) → Type 0
RegistrationWentOnIf cpu how None new = new ≡ None
RegistrationWentOnIf cpu how (Some g) None = ⊥
RegistrationWentOnIf cpu how (Some g) (Some after) = RegistrationWentOn cpu how g after

abbrev pub RegistrationBeganWith : (seat : ℕ) → Op → (state need : ℕ) → Option Registering → Type 0
RegistrationBeganWith seat op state need None = ⊥
RegistrationBeganWith seat op state need (Some g) = RegistrationBegan seat op state need g

abbrev pub left_by : Option Registering → ℕ
left_by None = 0
left_by (Some g) = g.left - 1

-- it has begun, gone on or ended, and this much of its room is given back
abbrev pub RegistrationChanged : (need freed : ℕ) → Event → (old new : Option Registering) → Type 0
RegistrationChanged need freed (RegBegin seat state op) old new = RegistrationBeganWith seat op state need new × (freed ≡ 0)
RegistrationChanged need freed (Call seat cpu state inst dir how) old new = RegistrationWentOnIf cpu how old new × (freed ≡ 0)
RegistrationChanged need freed (RegEnd seat answer) old new = (new ≡ None) × (freed ≡ left_by old)
RegistrationChanged need freed _ old new = (new ≡ old) × (freed ≡ 0)

-- a seat that leaves was admitted
abbrev pub CanLeave : Event → SeatsView → Type 0
CanLeave (Admit seat role) r = ⊥
CanLeave (Leave seat) r = seat < length r.roles
CanLeave _ r = Unit {0}

-- each part of the account can take the event
pub record CanAppend (keys : ℕ → List ℕ) (need : ℕ) (event : Event) (p : Account) : Type 0 where
  pub seats : CanLeave event p.seats
  pub locks : CanHold event p.locks
  pub ends : CanEnd event p.flights
  pub processors : HasPlaceFor event p.processors
  pub suspended : HasRoomFor event p.suspended
  pub operation : CanOperate event p.operation
  pub flights : CanFly keys (room_of_walk keys (is_batch p.operation) need event) event p.flights
  pub registration : CanRegister event
  pub turns : (freed : ℕ) (new : Flights) →
      WalksChanged keys (room_of_walk keys (is_batch p.operation) need event) freed event p.flights new →
      CanTurn keys (is_batch p.operation) event new p.turns
  pub place_in_set : HasPlaceInSet event

-- each part has
pub record Appended (keys : ℕ → List ℕ) (need freed : ℕ) (event : Event) (old new : Account) : Type 0 where
  pub seats : new.seats ≡ roll_after event old.seats
  pub locks : new.locks ≡ holders_after (is_batch old.operation) event old.locks
  pub to : ℕ
  pub to_is : WentTo event to old.flights
  pub processors : new.processors ≡ standing_after to event old.processors
  pub suspended : (op : Op) → IsOpOf event old.operation op → new.suspended ≡ suspension_after op event old.suspended
  pub operation :
      (head : Head) (events : List Event) → IsLawful head events → Comes head events event →
      IsStanding head events old.processors → IsHeldBy head events old.operation →
      IsHeldBy head (events ++ event ∷ []) new.operation
  pub freed_by_walk : ℕ
  pub freed_by_registration : ℕ
  pub flights :
      WalksChanged keys (room_of_walk keys (is_batch old.operation) need event) freed_by_walk event old.flights new.flights
  pub registration : RegistrationChanged need freed_by_registration event old.registration new.registration
  pub freed_is : freed ≡ freed_by_walk + freed_by_registration
  pub turns : TurnTaken keys (is_batch old.operation) event new.flights old.turns new.turns
  pub awaited : Awaited keys (is_batch old.operation) event new.flights old.awaited new.awaited

-- a seat has come in, and nothing else has changed
pub record Admitted (role : Role) (old new : Account) : Type 0 where
  pub seats : new.seats ≡ with_seat role old.seats
  pub locks : new.locks ≡ holders_after false (Admit (length old.seats.roles) role) old.locks
  pub processors : new.processors ≡ old.processors
  pub operation : new.operation ≡ old.operation
  pub flights : new.flights ≡ old.flights
  pub registration : new.registration ≡ old.registration
  pub suspended : new.suspended ≡ old.suspended
  pub turns : new.turns ≡ old.turns
  pub awaited : new.awaited ≡ old.awaited

-- there is a number for one seat more, and where it is a thread its processor is one of these, and has none
pub record CanAdmit (role : Role) (p : Account) : Type 0 where
  pub few : length p.seats.roles < MAX_SEATS
  pub place : HasPlace role (length p.seats.threads)
  pub no_thread : HasNoThread role p.seats.threads
  pub locks : length p.locks.reading < MAX_LOCKED

-- Where an entry stands: it goes on with the walk of its processor or with the registration in flight, is made
-- as its place wants, and by the seat that makes it. This project's own.
use Rattle.std.specs.Prelude.{◌≡◌, ℕ, true, Some, List, ◌∷◌, ◌++◌, ◌⊎◌}
use Rattle.hp_states.specs.declared.dir.Dir.{Dir}
use Rattle.hp_event.specs.declared.how.How.{How}
use Rattle.hp_event.specs.declared.head.Head.{Head}
use Rattle.hp_event.specs.declared.event.Event.{Event}
use Rattle.hp_model.specs.Walks.{Walk, walk, walk_entries}
use Rattle.hp_model.specs.Registrations.{Registration, registration, registration_entries}
use Rattle.hp_model.specs.Registered.{keys}
use Rattle.hp_model.specs.Processors.{processors}
use Rattle.hp_model.specs.How.{how_in_walk, how_in_registration}
use Rattle.hp_model.specs.Caller.{caller}
use Rattle.hp_model.specs.Crossing.{Crossing, Slot, slots, Fill, FitsAt}
use Rattle.hp_model.specs.Plan.{direction, plan}
use Rattle.hp_model.specs.WalkShape.{Outcome, IsWalkShape, IsWalkSoFar}
use Rattle.hp_model.specs.BatchTurn.{has_turn}
use Rattle.hp_model.specs.RegistrationShape.{key_of, is_adding, Registering, IsRegistrationShape}

-- some entries begin the walk of a processor, along the plan of the registered states at its WalkBegin
abbrev pub IsOfWalk : Head → (cpu : ℕ) → Walk → List Event → Type 0
IsOfWalk head c w entries =
    IsWalkSoFar c (keys head w.before) (direction w.from w.to) (plan (keys head w.before) w.from w.to) entries

-- the slot that comes after some entries
pub record IsNext (xs : List Slot) (entries : List Event) (slot : Slot) : Type 0 where
  pub front : List Slot
  pub rest : List Slot
  pub slots_are : xs ≡ front ++ slot ∷ rest
  pub filled : Fill front entries

-- the slot that comes after some entries, in some walk along the plan
pub record IsNextInWalk (cpu : ℕ) (keys : ℕ → List ℕ) (d : Dir) (plan : List ℕ) (entries : List Event) (slot : Slot) : Type 0 where
  pub outcome : Outcome
  pub crossings : List Crossing
  pub shape : IsWalkShape keys d plan crossings outcome
  pub is_next : IsNext (slots cpu keys crossings) entries slot

-- the entry that comes next in the walk of a processor, whoever makes it
pub record WalkEntry (head : Head) (before : List Event) (cpu state inst : ℕ) (dir : Dir) (how : How) : Type 0 where
  pub of : Walk
  pub in_flight : walk cpu before ≡ Some of
  pub outcome : Outcome
  pub crossings : List Crossing
  pub shape :
      IsWalkShape (keys head of.before) (direction of.from of.to) (plan (keys head of.before) of.from of.to) crossings
      outcome
  pub slot : Slot
  pub is_next : IsNext (slots cpu (keys head of.before) crossings) (walk_entries cpu before) slot
  pub fits : FitsAt slot cpu state inst dir how
  pub how_is : how ≡ how_in_walk head before cpu state inst dir slot.place slot.first

-- the entry that comes next in the registration in flight, whoever makes it
pub record RegistrationEntry (head : Head) (before : List Event) (cpu state inst : ℕ) (dir : Dir) (how : How) : Type 0 where
  pub of : Registration
  pub in_flight : registration before ≡ Some of
  pub outcome : Registering
  pub slots : List Slot
  pub shape :
      IsRegistrationShape (is_adding of.op) of.state (key_of head of) (processors head of.state of.before) slots outcome
  pub slot : Slot
  pub is_next : IsNext slots (registration_entries before) slot
  pub fits : FitsAt slot cpu state inst dir how
  pub how_is : how ≡ how_in_registration head before of.op cpu state inst dir slot.place

-- such an entry, by the seat that makes it; in an upmany its own seat makes it in its turn
pub record InWalk (head : Head) (before : List Event) (seat cpu state inst : ℕ) (dir : Dir) (how : How) : Type 0 where
  pub entry : WalkEntry head before cpu state inst dir how
  pub caller_is : caller before cpu state how entry.of.seat ≡ Some seat
  pub turn : has_turn head before seat cpu ≡ true

pub record InRegistration (head : Head) (before : List Event) (seat cpu state inst : ℕ) (dir : Dir) (how : How) : Type 0 where
  pub entry : RegistrationEntry head before cpu state inst dir how
  pub caller_is : caller before cpu state how entry.of.seat ≡ Some seat

abbrev pub Calls : Head → (before : List Event) → (seat cpu state inst : ℕ) → Dir → How → Type 0
Calls head before seat cpu state inst dir how =
    InWalk head before seat cpu state inst dir how ⊎ InRegistration head before seat cpu state inst dir how

-- no entry is due from a seat: no Call of it can come, and so none can stand, since an entry needs no room of its own
abbrev pub IsIdle : Head → List Event → (seat : ℕ) → Type 0
IsIdle head events k = (cpu state inst : ℕ) (dir : Dir) (how : How) → Calls head events k cpu state inst dir how → ⊥

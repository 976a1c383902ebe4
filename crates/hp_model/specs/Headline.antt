-- The headline: what holds of every lawful journal, at rest, in flight and at a fault. This project's own.
use Rattle.std.specs.Prelude.{◌≡◌, ℕ, ◌+◌, ◌<◌, ◌≤◌, ◌↔◌, false, Some, None, List, [], ◌∷◌, ◌++◌}
use Rattle.hp_event.specs.declared.answer.Answer.TheVariants.{Fault, Stuck}
use Rattle.hp_event.specs.declared.head.Head.{Head}
use Rattle.hp_event.specs.declared.event.Event.{Event}
use Rattle.hp_event.specs.declared.event.Event.TheVariants.{WalkEnd, RegEnd}
use Rattle.hp_model.specs.InForce.{ups, downs, IsInForce}
use Rattle.hp_model.specs.Lists.{occurs}
use Rattle.hp_model.specs.Walks.{Walk, walk, walk_entries, touched}
use Rattle.hp_model.specs.Registrations.{Registration, registration}
use Rattle.hp_model.specs.Registered.{registered, keys}
use Rattle.hp_model.specs.Readers.{reading_since}
use Rattle.hp_model.specs.Settled.{settled}
use Rattle.hp_model.specs.RegistrationShape.{key_of}
use Rattle.hp_model.specs.Shown.{shown}
use Rattle.hp_model.specs.Reading.{IsOpen, WalkReading}

-- the key is registered, at or below a state
abbrev pub IsRegisteredUpTo : Head → List Event → (at state inst : ℕ) → Type 0
IsRegisteredUpTo head events a s i = (s ≤ a) × (0 < occurs i (keys head events s))

-- a key is in force on a processor exactly where it is registered at or below a state
abbrev pub Agree : Head → List Event → (cpu at state inst : ℕ) → Type 0
Agree head events c a s i = IsInForce c s i events ↔ IsRegisteredUpTo head events a s i

-- what is in force on a processor, and its settled state, are as they were
pub record Unchanged (cpu : ℕ) (before events : List Event) : Type 0 where
  pub in_force : (s i : ℕ) → IsInForce cpu s i events ↔ IsInForce cpu s i before
  pub settled_same : settled cpu events ≡ settled cpu before

-- During a walk the shown state decides, but for the keys of the one state whose crossing is open.
pub record WalkAgrees (head : Head) (cpu : ℕ) (w : Walk) (events : List Event) : Type 0 where
  pub readable : WalkReading head cpu w (walk_entries cpu events)
  pub agree : (r : WalkReading head cpu w (walk_entries cpu events)) (s i : ℕ) →
      (IsOpen r.reading.next r.reading.part s → ⊥) → Agree head events cpu (shown head cpu events) s i

-- A walk that answered a fault undid exactly what it had done.
pub record WalkUndone (head : Head) (cpu : ℕ) (w : Walk) (before events : List Event) : Type 0 where
  pub even : (s i : ℕ) → ups cpu s i (walk_entries cpu before) ≡ downs cpu s i (walk_entries cpu before)
  pub unchanged : Unchanged cpu w.before events
  pub registered_same : (s : ℕ) → registered head s events ≡ registered head s w.before
  pub others : (o : ℕ) → touched cpu o before ≡ false → Unchanged o w.before events

-- A stuck walk leaves its processor at the state that it names.
pub record WalkStuck (head : Head) (cpu at : ℕ) (w : Walk) (before events : List Event) : Type 0 where
  pub stands_at : settled cpu events ≡ at
  pub registered_same : (s : ℕ) → registered head s events ≡ registered head s w.before
  pub others : (o : ℕ) → touched cpu o before ≡ false → Unchanged o w.before events

pub record RegistrationUndone (head : Head) (r : Registration) (events : List Event) : Type 0 where
  pub everyone : (cpu : ℕ) → Unchanged cpu r.before events
  pub registered_same : (s : ℕ) → registered head s events ≡ registered head s r.before

pub record Headline (head : Head) (events : List Event) : Type 0 where
  pub once : (cpu s i : ℕ) → (downs cpu s i events ≤ ups cpu s i events) × (ups cpu s i events ≤ downs cpu s i events + 1)
  pub at_rest : (cpu s i : ℕ) → walk cpu events ≡ None → registration events ≡ None →
      Agree head events cpu (settled cpu events) s i
  pub in_walk : (cpu : ℕ) (w : Walk) → walk cpu events ≡ Some w → WalkAgrees head cpu w events
  pub in_registration : (r : Registration) → registration events ≡ Some r → (cpu s i : ℕ) →
      ((s ≡ r.state) × (key_of head r ≡ Some i) → ⊥) → Agree head events cpu (settled cpu events) s i
  pub walk_fault : (before : List Event) (seat cpu code : ℕ) (w : Walk) →
      events ≡ before ++ WalkEnd seat cpu (Fault code) ∷ [] → walk cpu before ≡ Some w →
      WalkUndone head cpu w before events
  pub walk_stuck : (before : List Event) (seat cpu first second at : ℕ) (w : Walk) →
      events ≡ before ++ WalkEnd seat cpu (Stuck first second at) ∷ [] → walk cpu before ≡ Some w →
      WalkStuck head cpu at w before events
  pub registration_fault : (before : List Event) (seat code : ℕ) (r : Registration) →
      events ≡ before ++ RegEnd seat (Fault code) ∷ [] → registration before ≡ Some r → RegistrationUndone head r events
  pub readers : (seat : ℕ) (before : List Event) → reading_since seat events ≡ Some before → (cpu : ℕ) →
      (walk cpu events ≡ None) × (settled cpu events ≡ settled cpu before)

-- What every lawful journal keeps, and that one event more keeps it.
use Rattle.std.proofs.Common.{◌≡◌, ℕ, ◌+◌, ◌<◌, ◌≤◌, true, false, Option, Some, None, List, refl, ◌∙◌}
use Rattle.hp_states.specs.declared.dir.Dir.{Dir}
use Rattle.hp_states.specs.declared.dir.Dir.TheVariants.{Up, Down}
use Rattle.hp_event.specs.declared.head.Head.{Head}
use Rattle.hp_event.specs.declared.event.Event.{Event}
use Rattle.hp_model.specs.InForce.{done_entries, ups, downs}
use Rattle.hp_model.specs.Lists.{occurs}
use Rattle.hp_model.specs.Walks.{Walk, walk, walk_entries}
use Rattle.hp_model.specs.Registrations.{Registration, registration, registration_entries}
use Rattle.hp_model.specs.Registered.{registered, keys}
use Rattle.hp_model.specs.Settled.{settled}
use Rattle.hp_model.specs.Processors.{is_present}
use Rattle.hp_model.specs.RegistrationShape.{IsRegistrationSoFar}
use Rattle.hp_model.specs.StandsCalls.{IsOfWalk}
use Rattle.hp_model.proofs.Counts.{at_or_below}
use Rattle.hp_model.proofs.CanBegin.{CanBegin}

-- a processor has in force what is registered at or below its settled state
pub record Balanced (head : Head) (c : ℕ) (events : List Event) : Type 0 where
  pub at : (s i : ℕ) → ups c s i events ≡ downs c s i events + at_or_below (keys head events) (settled c events) s i

-- what holds while a walk of a processor is in flight
pub record WalkKept (head : Head) (c : ℕ) (w : Walk) (events : List Event) : Type 0 where
  pub present : is_present head c ≡ true
  pub no_registration : registration events ≡ None
  pub from_is : w.from ≡ settled c w.before
  pub settled_same : settled c events ≡ settled c w.before
  pub registered_same : (s : ℕ) → registered head s events ≡ registered head s w.before
  pub balanced : Balanced head c w.before
  pub counts : (s i : ℕ) (d : Dir) →
      done_entries c s i d events ≡ done_entries c s i d w.before + done_entries c s i d (walk_entries c events)
  pub so_far : IsOfWalk head c w (walk_entries c events)

-- what holds of one processor
abbrev pub KeptBy : Head → (cpu : ℕ) → List Event → Option Walk → Option Registration → Type 0
KeptBy head c events None None = Balanced head c events
KeptBy head c events None (Some r) = Unit {0}
KeptBy head c events (Some w) r = WalkKept head c w events

pub record KeptAt (head : Head) (c : ℕ) (events : List Event) : Type 0 where
  pub kept : KeptBy head c events (walk c events) (registration events)
  pub away : is_present head c ≡ false → settled c events ≡ 0

-- what holds while a registration is in flight
pub record RegistrationKept (head : Head) (r : Registration) (events : List Event) : Type 0 where
  pub no_walk : (c : ℕ) → walk c events ≡ None
  pub above : 0 < r.state
  pub can_begin : CanBegin r.op (registered head r.state r.before)
  pub settled_same : (c : ℕ) → settled c events ≡ settled c r.before
  pub registered_same : (s : ℕ) → registered head s events ≡ registered head s r.before
  pub balanced : (c : ℕ) → Balanced head c r.before
  pub counts : (c s i : ℕ) (d : Dir) →
      done_entries c s i d events ≡ done_entries c s i d r.before + done_entries c s i d (registration_entries events)
  pub so_far : IsRegistrationSoFar head r (registration_entries events)

abbrev pub RegistrationKeptBy : Head → List Event → Option Registration → Type 0
RegistrationKeptBy head events None = Unit {0}
RegistrationKeptBy head events (Some r) = RegistrationKept head r events

pub record Kept (head : Head) (events : List Event) : Type 0 where
  pub at : (c : ℕ) → KeptAt head c events
  pub registration_kept : RegistrationKeptBy head events (registration events)
  pub once : (s i : ℕ) → occurs i (keys head events s) ≤ 1
  pub none_at_0 : registered head 0 events ≡ None

-- an event that has nothing to do with a processor, nor with a registration
pub record Unmoved (head : Head) (c : ℕ) (xs ys : List Event) : Type 0 where
  pub walk_same : walk c ys ≡ walk c xs
  pub entries_same : walk_entries c ys ≡ walk_entries c xs
  pub registration_same : registration ys ≡ registration xs
  pub settled_same : settled c ys ≡ settled c xs
  pub registered_same : (s : ℕ) → registered head s ys ≡ registered head s xs
  pub counts_same : (s i : ℕ) (d : Dir) → done_entries c s i d ys ≡ done_entries c s i d xs

pub unmoved_by : (head : Head) (c : ℕ) (xs ys : List Event) (w : Option Walk) (r : Option Registration) → Unmoved head c xs ys →
    registration xs ≡ r → KeptBy head c xs w r → KeptBy head c ys w r
unmoved_by head c xs ys None None u e k = record {
  at = λ s i. rw (u.counts_same s i Up, u.counts_same s i Down, u.settled_same, u.registered_same s) (k.at s i);
}
unmoved_by head c xs ys None (Some r) u e k = tt
unmoved_by head c xs ys (Some w) r u e k = record {
  present = k.present;
  no_registration = u.registration_same ∙ k.no_registration;
  from_is = k.from_is;
  settled_same = u.settled_same ∙ k.settled_same;
  registered_same = λ s. u.registered_same s ∙ k.registered_same s;
  balanced = k.balanced;
  counts = λ s i d. rw (u.counts_same s i d, u.entries_same) (k.counts s i d);
  so_far = rw u.entries_same k.so_far;
}

pub unmoved : (head : Head) (c : ℕ) (xs ys : List Event) → Unmoved head c xs ys → KeptAt head c xs → KeptAt head c ys
unmoved head c xs ys u k = record {
  kept = rw (u.walk_same, u.registration_same) (unmoved_by head c xs ys (walk c xs) (registration xs) u refl k.kept);
  away = λ h. u.settled_same ∙ k.away h;
}

-- a quiet event moves no processor
pub quiet : (head : Head) (xs ys : List Event) → ((c : ℕ) → Unmoved head c xs ys) → registration_entries ys ≡ registration_entries xs →
    registration ys ≡ registration xs → ((s : ℕ) → registered head s ys ≡ registered head s xs) →
    Kept head xs → Kept head ys
quiet head xs ys u entries_same registration_same registered_same k = record {
  at = λ c. unmoved head c xs ys (u c) (k.at c);
  registration_kept = rw registration_same (go (registration xs) k.registration_kept);
  once = λ s i. rw (registered_same s) (k.once s i);
  none_at_0 = registered_same 0 ∙ k.none_at_0;
}
  where
    go : (r : Option Registration) → RegistrationKeptBy head xs r → RegistrationKeptBy head ys r
    go None h = tt
    go (Some r) h = record {
      no_walk = λ c. (u c).walk_same ∙ h.no_walk c;
      above = h.above;
      can_begin = h.can_begin;
      settled_same = λ c. (u c).settled_same ∙ h.settled_same c;
      registered_same = λ s. registered_same s ∙ h.registered_same s;
      balanced = h.balanced;
      counts = λ c s i d. rw ((u c).counts_same s i d, entries_same) (h.counts c s i d);
      so_far = rw entries_same h.so_far;
    }

-- What counters that follow a journal say of it, and at which total they stand. This project's own.
use Rattle.std.specs.Prelude.{◌≡◌, ℕ, ◌-◌, ◌<◌, ◌↔◌, ℤ, pos, ◌≤ℤ◌, ◌+ℤ◌, neg_ℤ, true, false, List, [], ◌∷◌, ◌++◌}
use Rattle.hp_states.specs.declared.limits.TheConstants.{MAX_CPU_SET}
use Rattle.hp_event.specs.declared.head.Head.{Head}
use Rattle.hp_event.specs.declared.event.Event.{Event}
use Rattle.hp_model.specs.InForce.{IsInForce}
use Rattle.hp_model.specs.Lawful.{IsLawful}
use Rattle.hp_pcount.specs.Tally.{Tally, part, is_open, total}

-- a number is between minus the bound and the bound
abbrev pub IsWithin : (bound : ℕ) → ℤ → Type 0
IsWithin n z = (neg_ℤ (pos n) ≤ℤ z) × (z ≤ℤ pos n)

-- Counters have followed some events and stand at a total: a processor is open exactly where the state is in force on it, and
-- else its part is 0; and each part is below the batch in size.
pub record StandsAt (events : List Event) (sum : ℤ) (t : Tally) : Type 0 where
  pub opened_are : (cpu : ℕ) → cpu < MAX_CPU_SET → (is_open t cpu ≡ true) ↔ IsInForce cpu t.state 0 events
  pub closed : (cpu : ℕ) → is_open t cpu ≡ false → part t cpu ≡ pos 0
  pub within : (cpu : ℕ) → IsWithin (t.batch - 1) (part t cpu)
  pub total_is : total t ≡ sum

-- whatever lawful journal they followed, with one event more they stand as before: no total changes by it
abbrev pub FollowsLawful : Tally → Event → Tally → Type 0
FollowsLawful t event u =
    (head : Head) (events : List Event) (sum : ℤ) → IsLawful head (events ++ event ∷ []) → StandsAt events sum t →
    StandsAt (events ++ event ∷ []) sum u

-- whatever journal they followed, they stand at so much more
abbrev pub Rises : Tally → (by : ℤ) → Tally → Type 0
Rises t by u = (events : List Event) (sum : ℤ) → StandsAt events sum t → StandsAt events (sum +ℤ by) u

-- The lists that a sequence of walks is handed: one place for each possible processor, with what the journal says of it.
-- This project's own.
use Rattle.std.specs.Prelude.{◌≡◌, ℕ, ◌<◌, Bool, Some, List, length, slice_get}
use Rattle.hp_event.specs.declared.head.Head.{Head}
use Rattle.hp_event.specs.declared.event.Event.{Event}
use Rattle.hp_model.specs.Lists.{among}
use Rattle.hp_model.specs.Settled.{settled, is_online}
use Rattle.hp_model.specs.Processors.{is_present}
use Rattle.hp_model.specs.Suspend.{frozen}

-- a list has as many places as there are possible processors, and in the place of each what is said of it
pub record AreAll {X : Type 0} (head : Head) (said : ℕ → X) (places : List X) : Type 0 where
  pub length_is : length places ≡ head.possible
  pub each : (cpu : ℕ) → cpu < head.possible → slice_get places cpu ≡ Some (said cpu)

-- which processors are online
abbrev pub AreOnline : Head → List Event → List Bool → Type 0
AreOnline head events online = AreAll head (λ c. is_online c events) online

-- which are present
abbrev pub ArePresent : Head → List Bool → Type 0
ArePresent head present = AreAll head (λ c. is_present head c) present

-- which are in the record of the last freeze
abbrev pub AreFrozen : Head → List Event → List Bool → Type 0
AreFrozen head events record_of = AreAll head (λ c. among c (frozen events)) record_of

-- where each stands
abbrev pub AreSettled : Head → List Event → List ℕ → Type 0
AreSettled head events states = AreAll head (λ c. settled c events) states

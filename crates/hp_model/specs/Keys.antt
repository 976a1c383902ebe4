-- The keys in force on a processor, as a list: of every journal by counting, and at rest by what is registered.
-- This project's own.
use Rattle.std.specs.Prelude.{◌≡◌, ℕ, true, ◌↔◌, None, List, AllPairs, Contains}
use Rattle.hp_event.specs.declared.key.Key.{Key}
use Rattle.hp_event.specs.declared.head.Head.{Head}
use Rattle.hp_event.specs.declared.event.Event.{Event}
use Rattle.hp_model.specs.InForce.{IsInForce}
use Rattle.hp_model.specs.Walks.{walk}
use Rattle.hp_model.specs.Registrations.{registration}
use Rattle.hp_model.specs.Settled.{settled}
use Rattle.hp_model.specs.Net.{is_before, keys_in_force}
use Rattle.hp_model.specs.Headline.{IsRegisteredUpTo}

-- each key is before all later ones, so that each is there once
abbrev pub AreRising : List Key → Type 0
AreRising keys = AllPairs (λ k x. is_before k x ≡ true) keys

abbrev pub HasKey : List Key → (state inst : ℕ) → Type 0
HasKey keys s i = Contains keys (record { state = s; inst = i })

-- the keys are those in force on a processor, each once
pub record AreKeysInForce (cpu : ℕ) (events : List Event) (keys : List Key) : Type 0 where
  pub rising : AreRising keys
  pub in_force : (s i : ℕ) → HasKey keys s i ↔ IsInForce cpu s i events

-- the keys are those that are registered at or below the state where the processor stands, each once
pub record AreKeysAtRest (head : Head) (cpu : ℕ) (events : List Event) (keys : List Key) : Type 0 where
  pub rising : AreRising keys
  pub registered : (s i : ℕ) → HasKey keys s i ↔ IsRegisteredUpTo head events (settled cpu events) s i

-- where the processor doesn't walk and no registration is in flight, the keys in force on it are those
abbrev pub RestsWithKeys : Head → (cpu : ℕ) → List Event → Type 0
RestsWithKeys head c events =
    walk c events ≡ None → registration events ≡ None → AreKeysAtRest head c events (keys_in_force c events)

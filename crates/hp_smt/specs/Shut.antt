-- While the mode is Off or ForceOff every processor that is online is a primary. What is so of the journal then, and stays so whatever
-- event stands next, but for the Enter of an operation that brings a sibling up. This project's own.
use Rattle.std.specs.Prelude.{◌≡◌, ℕ, ◌≤◌, true, false, Some, List}
use Rattle.hp_states.specs.declared.limits.TheConstants.{AP_ONLINE}
use Rattle.hp_event.specs.declared.event.Event.{Event}
use Rattle.hp_model.specs.Lists.{among}
use Rattle.hp_model.specs.MapLock.{Operation, operation}
use Rattle.hp_model.specs.Settled.{is_online}
use Rattle.hp_model.specs.Suspend.{frozen, held_by, is_freeze}
use Rattle.hp_model.specs.Walks.{Walk, walk}
use Rattle.hp_smt.specs.Siblings.{is_sibling, is_up_of_sibling}

-- no sibling is online
abbrev pub AreOffline : (threads : ℕ) → List Event → Type 0
AreOffline n events = (c : ℕ) → is_sibling n c ≡ true → is_online c events ≡ false

-- so every processor that is online is a primary
abbrev pub ArePrimaries : (threads : ℕ) → List Event → Type 0
ArePrimaries n events = (c : ℕ) → is_online c events ≡ true → is_sibling n c ≡ false

-- a sibling that walks stays below the states at which it is online, and no freeze walks it
pub record WalksLow (events : List Event) (w : Walk) : Type 0 where
  pub from_low : w.from ≤ AP_ONLINE
  pub to_low : w.to ≤ AP_ONLINE
  pub not_frozen : held_by is_freeze (operation events) ≡ false

-- No sibling is online, nor was as the operation in flight entered, which doesn't bring one up; none is frozen, so that a thaw brings
-- none up; and one that walks, as for a target or a `down`, begins and ends below the states at which it is online.
pub record IsShut (threads : ℕ) (events : List Event) : Type 0 where
  pub offline : AreOffline threads events
  pub entered : (o : Operation) → operation events ≡ Some o → AreOffline threads o.before
  pub brings_none_up : (o : Operation) → operation events ≡ Some o → is_up_of_sibling threads o.op ≡ false
  pub none_frozen : (c : ℕ) → is_sibling threads c ≡ true → among c (frozen events) ≡ false
  pub low : (c : ℕ) (w : Walk) → is_sibling threads c ≡ true → walk c events ≡ Some w → WalksLow events w

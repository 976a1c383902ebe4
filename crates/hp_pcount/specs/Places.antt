-- Which events and numbers counters have a part for, and which of their parts is the first of an open processor. This project's own.
use Rattle.std.specs.Prelude.{◌≡◌, ℕ, ◌<◌, ◌≤◌, true, false}
use Rattle.hp_states.specs.declared.limits.TheConstants.{MAX_CPU_SET}
use Rattle.hp_event.specs.declared.event.Event.{Event}
use Rattle.hp_event.specs.declared.event.Event.TheVariants.{Call}
use Rattle.hp_pcount.specs.Tally.{Tally, is_open}

-- the processor of an event is one that counters have a part for, if it is an entry
abbrev pub HasPart : Event → Type 0
HasPart (Call seat cpu state inst dir how) = cpu < MAX_CPU_SET
HasPart _ = Unit {0}

-- the lowest of the open processors from one on
pub record IsFirstOpen (t : Tally) (from cpu : ℕ) : Type 0 where
  pub within : cpu < MAX_CPU_SET
  pub at_least : from ≤ cpu
  pub opened : is_open t cpu ≡ true
  pub none_below : (other : ℕ) → from ≤ other → other < cpu → is_open t other ≡ false

-- none is open from one on
abbrev pub HasNoneOpen : Tally → (from : ℕ) → Type 0
HasNoneOpen t from = (cpu : ℕ) → from ≤ cpu → is_open t cpu ≡ false

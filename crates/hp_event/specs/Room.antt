-- The room of a journal: each promise has a place in memory already, and there are no more places than events
-- that a journal holds. This project's own.
use Rattle.std.specs.Prelude.{ℕ, ◌+◌, ◌*◌, ◌<◌, ◌≤◌, min}
use Rattle.hp_states.specs.declared.limits.TheConstants.{MAX_EVENTS}

-- of so many events and promises, in so many places
pub record HasRoom (len places promised : ℕ) : Type 0 where
  pub spare : len + promised ≤ places
  pub bounded : places ≤ MAX_EVENTS

-- where fewer places than are wanted were there, there are twice as many or more, up to the limit
abbrev pub Doubles : (places wanted places_then : ℕ) → Type 0
Doubles places wanted places_then = places < wanted → min (2 * places) MAX_EVENTS ≤ places_then

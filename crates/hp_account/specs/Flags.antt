-- Lists with a truth value for each number. This project's own.
use Rattle.std.specs.Prelude.{◌≡◌, ◌<◌, ℕ, Bool, false, List, length, get_or}

-- at each place whether something is so of its number, and no place beyond
pub record AreFlags (test : ℕ → Bool) (count : ℕ) (flags : List Bool) : Type 0 where
  pub places : length flags ≡ count
  pub each : (c : ℕ) → c < count → get_or flags c false ≡ test c

-- The numbers of a count, by the words that say them. This project's own.
use Rattle.std.specs.Prelude.{◌≡◌, ℕ, ◌≤◌, List, [], ◌∷◌, decimal}
use Rattle.hp_pcount.specs.declared.limits.TheConstants.{LAST_FOLLOWED, MAX_BATCH}
use Rattle.hp_command.specs.declared.counting.Counting.{Counting}

-- a number is one of those from 1 on
abbrev pub IsUpTo : (most : ℕ) → (n : ℕ) → Type 0
IsUpTo most n = (1 ≤ n) × (n ≤ most)

-- a word says such a number
abbrev pub SaysUpTo : (most : ℕ) → (word : List ℕ) → (n : ℕ) → Type 0
SaysUpTo most word n = (word ≡ decimal n) × IsUpTo most n

-- and it says none
abbrev pub SaysNoneUpTo : (most : ℕ) → (word : List ℕ) → Type 0
SaysNoneUpTo most word = (n : ℕ) → SaysUpTo most word n → ⊥

-- the words are the digits of a state and of a batch
pub record AreCounting (words : List (List ℕ)) (counting : Counting) : Type 0 where
  pub spelled : words ≡ decimal counting.state ∷ decimal counting.batch ∷ []
  pub state_within : IsUpTo LAST_FOLLOWED counting.state
  pub batch_within : IsUpTo MAX_BATCH counting.batch

abbrev pub AreNoCounting : (words : List (List ℕ)) → Type 0
AreNoCounting words = (counting : Counting) → AreCounting words counting → ⊥

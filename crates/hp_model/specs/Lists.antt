-- Small words on lists of numbers. This project's own.
use Rattle.std.specs.Prelude.{ℕ, zero, suc, Bool, true, false, not, ◌==◌, List, [], ◌∷◌, ◌++◌, filter}
pub use Rattle.hp_event.specs.Heads.{occurs, among}

abbrev pub is_empty : {X : Type 0} → List X → Bool
is_empty [] = true
is_empty (x ∷ xs) = false

-- the list without a number
abbrev pub without : ℕ → List ℕ → List ℕ
without i xs = filter (λ x. not (x == i)) xs

-- the numbers below n, rising
abbrev pub numbers : ℕ → List ℕ
numbers zero = []
numbers (suc n) = numbers n ++ n ∷ []

-- the n numbers above a, rising
abbrev pub rising : (a n : ℕ) → List ℕ
rising a zero = []
rising a (suc n) = suc a ∷ rising (suc a) n

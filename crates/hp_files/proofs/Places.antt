-- The spaces that stand before a number's digits.
use Rattle.std.proofs.Common.{◌≡◌, ℕ, ◌-◌, [], ◌∷◌, drop, replicate, min, arith}
use Rattle.std.proofs.lemmas.List.{drop-replicate}

-- what is left of three spaces
pub spaces : (digits : ℕ) → drop {A = ℕ} (min digits 3) (32 ∷ 32 ∷ 32 ∷ []) ≡ replicate {A = ℕ} (3 - digits) 32
spaces digits = let left : 3 - min digits 3 ≡ 3 - digits = omega arith in rw (← left) (drop-replicate (min digits 3) 3 32)

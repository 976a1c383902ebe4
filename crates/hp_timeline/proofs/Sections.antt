-- The read sections of seats, in a list that is made longer.
use Rattle.std.proofs.Common.{◌≡◌, ℕ, zero, suc, ◌<◌, ◌≤◌, Bool, true, false, ◌==◌, if◌then◌else◌, List, [], ◌∷◌, ◌++◌, length, get_or, set, refl, sym, ap, ◌∙◌, arith}
use Rattle.std.proofs.lemmas.List.{get_or-set_same, get_or-set_other}
use Rattle.std.proofs.lemmas.Bool.Decides.{nat_tests}

-- nothing is past the end
pub past_end : {X : Type 0} (xs : List X) (n : ℕ) (d : X) → length xs ≤ n → get_or xs n d ≡ d
past_end [] n d h = refl
past_end (x ∷ xs) zero d h = absurd (omega arith)
past_end (x ∷ xs) (suc n) d h = past_end xs n d (omega arith)

-- and with one place more there is nothing more
pub padded : {X : Type 0} (xs : List X) (k : ℕ) (d : X) → get_or (xs ++ d ∷ []) k d ≡ get_or xs k d
padded [] zero d = refl
padded [] (suc k) d = refl
padded (x ∷ xs) zero d = refl
padded (x ∷ xs) (suc k) d = padded xs k d

-- a write at a place that the list has
pub written : {X : Type 0} (xs : List X) (i k : ℕ) (x d : X) → i < length xs →
    get_or (set xs i x) k d ≡ (if i == k then x else get_or xs k d)
written xs i k x d h = go (i == k) refl
  where
    go : (b : Bool) → (i == k) ≡ b → get_or (set xs i x) k d ≡ (if b then x else get_or xs k d)
    go true p = let same : i ≡ k = grind (arith, nat_tests) in rw (← same) (get_or-set_same xs i x d h)
    go false p = get_or-set_other xs i k x d (λ e. grind (arith, nat_tests))

-- what is past the end is as if it were written
pub unwritten : {X : Type 0} (xs : List X) (i k : ℕ) (d : X) → length xs ≤ i →
    get_or xs k d ≡ (if i == k then d else get_or xs k d)
unwritten xs i k d h = go (i == k) refl
  where
    go : (b : Bool) → (i == k) ≡ b → get_or xs k d ≡ (if b then d else get_or xs k d)
    go true p = let same : i ≡ k = grind (arith, nat_tests) in past_end xs k d (omega arith)
    go false p = refl

-- What stands in a list with one place set.
use Rattle.std.proofs.Common.{◌≡◌, ◌≤◌, ◌⊎◌, inl, inr, ℕ, zero, suc, Some, None, List, [], ◌∷◌, length, set, replicate, slice_get, refl, ap, arith}

pub set_then : {A : Type 0} (xs : List A) (i j : ℕ) (y x : A) → slice_get (set xs i y) j ≡ Some x →
    ((i ≡ j) × (y ≡ x)) ⊎ (slice_get xs j ≡ Some x)
set_then [] i j y x h = inr h
set_then (z ∷ zs) zero zero y x h = inl (refl, cc)
set_then (z ∷ zs) zero (suc j) y x h = inr h
set_then (z ∷ zs) (suc i) zero y x h = inr h
set_then (z ∷ zs) (suc i) (suc j) y x h = go (set_then zs i j y x h)
  where
    go : ((i ≡ j) × (y ≡ x)) ⊎ (slice_get zs j ≡ Some x) → ((suc i ≡ suc j) × (y ≡ x)) ⊎ (slice_get zs j ≡ Some x)
    go (inl p) = inl (ap suc p.0, p.1)
    go (inr e) = inr e

pub then_set : {A : Type 0} (xs : List A) (i j : ℕ) (y x : A) → slice_get xs j ≡ Some x →
    ((i ≡ j) × (slice_get (set xs i y) j ≡ Some y)) ⊎ (slice_get (set xs i y) j ≡ Some x)
then_set [] i j y x h = inr h
then_set (z ∷ zs) zero zero y x h = inl (refl, refl)
then_set (z ∷ zs) zero (suc j) y x h = inr h
then_set (z ∷ zs) (suc i) zero y x h = inr h
then_set (z ∷ zs) (suc i) (suc j) y x h = go (then_set zs i j y x h)
  where
    go : ((i ≡ j) × (slice_get (set zs i y) j ≡ Some y)) ⊎ (slice_get (set zs i y) j ≡ Some x) →
        ((suc i ≡ suc j) × (slice_get (set zs i y) j ≡ Some y)) ⊎ (slice_get (set zs i y) j ≡ Some x)
    go (inl p) = inl (ap suc p.0, p.1)
    go (inr e) = inr e

pub set_there : {A : Type 0} (xs : List A) (i : ℕ) (y x : A) → slice_get xs i ≡ Some x → slice_get (set xs i y) i ≡ Some y
set_there [] i y x h = absurd cc
set_there (z ∷ zs) zero y x h = refl
set_there (z ∷ zs) (suc i) y x h = set_there zs i y x h

pub set_same : {A : Type 0} (xs : List A) (i : ℕ) (y x : A) → slice_get (set xs i y) i ≡ Some x → y ≡ x
set_same [] i y x h = absurd cc
set_same (z ∷ zs) zero y x h = cc
set_same (z ∷ zs) (suc i) y x h = set_same zs i y x h

pub none_past : {A : Type 0} (xs : List A) (i : ℕ) → slice_get xs i ≡ None → length xs ≤ i
none_past [] i h = omega arith
none_past (z ∷ zs) zero h = absurd cc
none_past (z ∷ zs) (suc i) h = let l = none_past zs i h in omega (arith, l)

pub replicated : {A : Type 0} (n i : ℕ) (x y : A) → slice_get (replicate n x) i ≡ Some y → x ≡ y
replicated zero i x y h = absurd cc
replicated (suc n) zero x y h = cc
replicated (suc n) (suc i) x y h = replicated n i x y h

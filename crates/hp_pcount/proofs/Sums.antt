-- Sums of signed numbers: what a sum is after one of them was changed, and how far it is from where it began.
use Rattle.std.proofs.Common.{◌≡◌, ℕ, zero, suc, ◌+◌, ◌<◌, ◌≤◌, List, [], ◌∷◌, length, take, get_or, ◌^◌, FitsSigned, w32, w64, to_z, of_z, refl, ap, sym, ◌∙◌, arith}
use Rattle.std.specs.Prelude.{ℤ, pos, ◌+ℤ◌, ◌-ℤ◌, neg_ℤ, ◌≤ℤ◌, unsigned_abs, fold, sum_by}
use Rattle.std.specs.Int.{w128}
use Rattle.std.proofs.Math.ListN.{set}
use Rattle.std.proofs.lemmas.Int.{ints, to_z-of_z, fits_signed_from_abs}
use Rattle.std.proofs.lemmas.List.Sums.{sum_by-cons, sum_by-take-le, fold_more}

pub size_sum : (a b : ℤ) → unsigned_abs (a +ℤ b) ≤ unsigned_abs a + unsigned_abs b
size_sum a b = omega (arith, ints)

swap : (a b x : ℤ) → (a +ℤ b) +ℤ x ≡ (a +ℤ x) +ℤ b
swap a b x = omega (arith, ints)

-- a sum begins at the end as well
pub fold_from : (a b : ℤ) (xs : List ℤ) → fold ◌+ℤ◌ (a +ℤ b) xs ≡ fold ◌+ℤ◌ a xs +ℤ b
fold_from a b [] = refl
fold_from a b (x ∷ xs) = ap (λ z. fold ◌+ℤ◌ z xs) (swap a b x) ∙ fold_from (a +ℤ x) b xs

-- one number was changed
pub fold_set : (a : ℤ) (xs : List ℤ) (i : ℕ) (y : ℤ) → i < length xs →
    fold ◌+ℤ◌ a (set xs i y) +ℤ get_or xs i (pos 0) ≡ fold ◌+ℤ◌ a xs +ℤ y
fold_set a [] i y h = absurd (omega arith)
fold_set a (x ∷ xs) zero y h =
    rw (fold_from a y xs, fold_from a x xs) (swap (fold ◌+ℤ◌ a xs) y x)
fold_set a (x ∷ xs) (suc i) y h = fold_set (a +ℤ x) xs i y (omega arith)

pub fold_size : (a : ℤ) (xs : List ℤ) → unsigned_abs (fold ◌+ℤ◌ a xs) ≤ unsigned_abs a + sum_by unsigned_abs xs
fold_size a [] = omega arith
fold_size a (x ∷ xs) =
    let h = fold_size (a +ℤ x) xs in
    let s = sum_by-cons unsigned_abs x xs in
    let t = size_sum a x in
    omega arith

pub size_within : (n : ℕ) (z : ℤ) → unsigned_abs z ≤ n → (neg_ℤ (pos n) ≤ℤ z) × (z ≤ℤ pos n)
size_within n z h = (omega (arith, ints), omega (arith, ints))

apart : (a z : ℤ) → (z +ℤ a) -ℤ a ≡ z
apart a z = omega (arith, ints)

pub fold_near : (n : ℕ) (a : ℤ) (xs : List ℤ) → sum_by unsigned_abs xs ≤ n →
    (neg_ℤ (pos n) ≤ℤ (fold ◌+ℤ◌ a xs -ℤ a)) × ((fold ◌+ℤ◌ a xs -ℤ a) ≤ℤ pos n)
fold_near n a xs h =
    let zero_first : pos 0 +ℤ a ≡ a = omega (arith, ints) in
    let e : fold ◌+ℤ◌ a xs ≡ fold ◌+ℤ◌ (pos 0) xs +ℤ a = ap (λ z. fold ◌+ℤ◌ z xs) (sym zero_first) ∙ fold_from (pos 0) a xs in
    let s = fold_size (pos 0) xs in
    rw (e, apart a (fold ◌+ℤ◌ (pos 0) xs)) (size_within n (fold ◌+ℤ◌ (pos 0) xs) (omega arith))

-- a loop's step
pub fold_step : (a : ℤ) (xs : List ℤ) (i : ℕ) → i < length xs →
    fold ◌+ℤ◌ a (take (i + 1) xs) ≡ fold ◌+ℤ◌ a (take i xs) +ℤ get_or xs i (pos 0)
fold_step a xs i h = fold_more ◌+ℤ◌ a xs i (pos 0) h

pub step_size : (a : ℤ) (xs : List ℤ) (i : ℕ) → i < length xs →
    unsigned_abs (fold ◌+ℤ◌ a (take i xs) +ℤ get_or xs i (pos 0)) ≤ unsigned_abs a + sum_by unsigned_abs xs
step_size a xs i h =
    let s = fold_size a (take (i + 1) xs) in
    let t = sum_by-take-le unsigned_abs xs (i + 1) in
    rw (← fold_step a xs i h) (omega arith)

-- a small number fits
pub fits_128 : (z : ℤ) → unsigned_abs z ≤ 2 ^ 94 → FitsSigned w128 z
fits_128 z h = fits_signed_from_abs w128 z (omega arith)

pub fits_64 : (z : ℤ) → unsigned_abs z ≤ 2 ^ 33 → FitsSigned w64 z
fits_64 z h = fits_signed_from_abs w64 z (omega arith)

pub part_read : (p r : ℤ) → r ≡ to_z w64 (of_z w64 p) → unsigned_abs p ≤ 2 ^ 33 → r ≡ p
part_read p r e h = e ∙ to_z-of_z w64 p (fits_64 p h)

-- what the code adds to a base
pub base_more : (base p r : ℤ) → r ≡ to_z w64 (of_z w64 p) → unsigned_abs p ≤ 2 ^ 33 → unsigned_abs base ≤ 2 ^ 93 →
    to_z w128 (of_z w128 (to_z w128 (of_z w128 base) +ℤ to_z w128 (of_z w128 r))) ≡ base +ℤ p
base_more base p r e h b =
    let s = size_sum base p in
    rw
    (part_read p r e h, to_z-of_z w128 base (fits_128 base (omega arith)), to_z-of_z w128 p (fits_128 p (omega arith)))
    (to_z-of_z w128 (base +ℤ p) (fits_128 (base +ℤ p) (omega arith)))

pub size_32 : (by : ℤ) → FitsSigned w32 by → unsigned_abs by ≤ 2 ^ 31
size_32 by f = omega (arith, ints)

-- what the code adds to a part
pub part_more : (p by r : ℤ) → r ≡ to_z w32 (of_z w32 by) → FitsSigned w32 by → unsigned_abs p ≤ 1000000 →
    to_z w64 (of_z w64 p) +ℤ to_z w64 (of_z w64 r) ≡ p +ℤ by
part_more p by r e f h =
    let y = size_32 by f in
    rw
    (e, to_z-of_z w32 by f, to_z-of_z w64 p (fits_64 p (omega arith)), to_z-of_z w64 by (fits_64 by (omega arith)))
    refl

pub sum_64 : (p by : ℤ) → FitsSigned w32 by → unsigned_abs p ≤ 1000000 → to_z w64 (of_z w64 (p +ℤ by)) ≡ p +ℤ by
sum_64 p by f h =
    let y = size_32 by f in
    let s = size_sum p by in
    to_z-of_z w64 (p +ℤ by) (fits_64 (p +ℤ by) (omega arith))

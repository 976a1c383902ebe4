-- One element more, in front.
use Rattle.std.proofs.Common.{◌≡◌, ℕ, zero, suc, ◌+◌, ◌<◌, Bool, List, ◌∷◌, length, arith}
use Rattle.std.specs.Prelude.{IsTrue, ◌↔◌, All}
use Rattle.std.specs.List.{slice_index}
use Rattle.std.specs.List.Sorted.{IsStrictlyIncreasing}
use Rattle.std.proofs.lemmas.List.Elements.{All-cons}

All_tail : {X : Type 0} (P : X → Type 0) (x : X) (xs : List X) → All P (x ∷ xs) → All P xs
All_tail P x xs h k d l = h (suc k) d (omega arith)

pub all_step : {X : Type 0} (P : X → Type 0) (x : X) (xs : List X) (b : Bool) → P x → IsTrue b ↔ All P xs → IsTrue b ↔ All P (x ∷ xs)
all_step P x xs b p e = (λ h. All-cons P x xs p (e.0 h), λ h. e.1 (All_tail P x xs h))

pub rising_step : (x y : ℕ) (ys : List ℕ) (b : Bool) → x < y → IsTrue b ↔ IsStrictlyIncreasing (y ∷ ys) →
    IsTrue b ↔ IsStrictlyIncreasing (x ∷ (y ∷ ys))
rising_step x y ys b l e = (λ h k m. up k (e.0 h) m, λ h. e.1 (λ k m. down k h m))
  where
    up : (k : ℕ) → IsStrictlyIncreasing (y ∷ ys) → k + 1 < length (x ∷ (y ∷ ys)) →
        slice_index (x ∷ (y ∷ ys)) k < slice_index (x ∷ (y ∷ ys)) (k + 1)
    up zero h m = l
    up (suc k) h m = let q : suc k + 1 ≡ suc (k + 1) = omega arith in rw q (h k (omega arith))

    down : (k : ℕ) → IsStrictlyIncreasing (x ∷ (y ∷ ys)) → k + 1 < length (y ∷ ys) → slice_index (y ∷ ys) k < slice_index (y ∷ ys) (k + 1)
    down k h m = let q : suc k + 1 ≡ suc (k + 1) = omega arith in rw q at (h (suc k) (omega arith))

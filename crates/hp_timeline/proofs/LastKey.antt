-- The last of a list, by its place.
use Rattle.std.proofs.Common.{◌≡◌, ℕ, zero, suc, ◌-◌, Bool, false, ◌==◌, Option, Some, None, List, [], ◌∷◌, length, refl, sym, ap, ◌∙◌, arith}
use Rattle.std.specs.Prelude.{slice_get}
use Rattle.hp_model.specs.Shown.{is_last}

abbrev pub is_one : Option ℕ → ℕ → Bool
is_one None i = false
is_one (Some x) i = x == i

pub last_is : (xs : List ℕ) (i : ℕ) → is_last xs i ≡ is_one (slice_get xs (length xs - 1)) i
last_is [] i = refl
last_is (x ∷ []) i = refl
last_is (x ∷ y ∷ ys) i =
    let e : length (x ∷ y ∷ ys) - 1 ≡ suc (length (y ∷ ys) - 1) = omega arith in rw e (last_is (y ∷ ys) i)

-- What stands at a place of a list after a write, and after one place more.
use Rattle.std.proofs.Common.{◌≡◌, ◌≢◌, ℕ, zero, suc, ◌<◌, ◌≤◌, Bool, true, false, cond, eqb, Option, Some, None, List, [], ◌∷◌, ◌++◌, length, refl, ap, sym, ◌∙◌, arith}
use Rattle.std.specs.Prelude.{slice_set, replicate}
use Rattle.std.proofs.lemmas.Bool.{eqb-true, eqb-false, eq-eqb, ne_eqb}
use Rattle.hp_account.specs.Places.{at_place}

pub at_place-past : {X : Type 0} (xs : List (Option X)) (n : ℕ) → length xs ≤ n → at_place xs n ≡ None
at_place-past [] n past = refl
at_place-past (x ∷ xs) zero past = absurd (omega arith)
at_place-past (x ∷ xs) (suc n) past = at_place-past xs n (omega arith)

pub at_place-within : {X : Type 0} (xs : List (Option X)) (n : ℕ) (x : X) → at_place xs n ≡ Some x → n < length xs
at_place-within [] n x is = absurd (cc)
at_place-within (y ∷ ys) zero x is = omega arith
at_place-within (y ∷ ys) (suc n) x is = let below : n < length ys = at_place-within ys n x is in omega arith

pub at_place-set_same : {X : Type 0} (xs : List (Option X)) (n : ℕ) (x : Option X) → n < length xs →
    at_place (slice_set xs n x) n ≡ x
at_place-set_same [] n x below = absurd (omega arith)
at_place-set_same (y ∷ ys) zero x below = refl
at_place-set_same (y ∷ ys) (suc n) x below = at_place-set_same ys n x (omega arith)

pub at_place-set_other : {X : Type 0} (xs : List (Option X)) (n : ℕ) (x : Option X) (m : ℕ) → n ≢ m →
    at_place (slice_set xs n x) m ≡ at_place xs m
at_place-set_other [] n x m other = refl
at_place-set_other (y ∷ ys) zero x zero other = absurd (other refl)
at_place-set_other (y ∷ ys) zero x (suc m) other = refl
at_place-set_other (y ∷ ys) (suc n) x zero other = refl
at_place-set_other (y ∷ ys) (suc n) x (suc m) other = at_place-set_other ys n x m (λ e. other (ap suc e))

-- after a write
pub at_place-set : {X : Type 0} (xs : List (Option X)) (n : ℕ) (x : Option X) (m : ℕ) → n < length xs →
    at_place (slice_set xs n x) m ≡ cond (eqb n m) x (at_place xs m)
at_place-set xs n x m below = go (eqb n m) refl
  where
    go : (b : Bool) → eqb n m ≡ b → at_place (slice_set xs n x) m ≡ cond b x (at_place xs m)
    go true e = let same : n ≡ m = eqb-true n m e in rw (← same) (at_place-set_same xs n x below)
    go false e = at_place-set_other xs n x m (eqb-false n m e)

eqb_suc : (n m : ℕ) → eqb (suc n) (suc m) ≡ eqb n m
eqb_suc n m = go (eqb n m) refl
  where
    go : (b : Bool) → eqb n m ≡ b → eqb (suc n) (suc m) ≡ b
    go true e = let same : n ≡ m = eqb-true n m e in eq-eqb (suc n) (suc m) (ap suc same)
    go false e = ne_eqb (suc n) (suc m) (λ h. eqb-false n m e (omega arith))

-- after one place more
pub at_place-push : {X : Type 0} (xs : List (Option X)) (x : Option X) (m : ℕ) →
    at_place (xs ++ x ∷ []) m ≡ cond (eqb (length xs) m) x (at_place xs m)
at_place-push [] x zero = refl
at_place-push [] x (suc m) = let apart : eqb 0 (suc m) ≡ false = ne_eqb 0 (suc m) (λ e. absurd (omega arith)) in rw apart refl
at_place-push (y ∷ ys) x zero =
    let apart : eqb (suc (length ys)) 0 ≡ false = ne_eqb (suc (length ys)) 0 (λ e. absurd (omega arith)) in rw apart refl
at_place-push (y ∷ ys) x (suc m) =
    at_place-push ys x m ∙ ap (λ b. cond b x (at_place ys m)) (sym (eqb_suc (length ys) m))

pub at_place-none : {X : Type 0} (n m : ℕ) → at_place {X = X} (replicate n None) m ≡ None
at_place-none zero m = refl
at_place-none (suc n) zero = refl
at_place-none (suc n) (suc m) = at_place-none n m

-- what is set at an empty place and taken away again
pub unset : {X : Type 0} (xs : List (Option X)) (c : ℕ) (x : Option X) → at_place xs c ≡ None → slice_set (slice_set xs c x) c None ≡ xs
unset [] c x h = refl
unset (y ∷ ys) zero x h = ap (λ z. z ∷ ys) (sym h)
unset (y ∷ ys) (suc c) x h = ap (λ zs. y ∷ zs) (unset ys c x h)

-- Digits read one by one, up to a limit: the loop that ends where the limit is passed says what all digits say.
use Rattle.std.proofs.Common.{◌≡◌, ℕ, ◌+◌, ◌-◌, ◌*◌, ◌^◌, ◌<◌, ◌≤◌, Bool, true, false, cond, ltb, Some, None, List, [], ◌∷◌, length, get_or, drop, Ok, Err, refl, sym, ap, ◌∙◌, arith}
use Rattle.std.specs.Prelude.{Result}
use Rattle.std.proofs.lemmas.Bool.{lt-ltb, le-ltb, ltb-false}
use Rattle.std.proofs.lemmas.List.{at_drop_more, at_drop_all}
use Rattle.hp_text.specs.declared.unread.Unread.{Unread}
use Rattle.hp_text.specs.declared.unread.Unread.TheVariants.{NotOfForm}
use Rattle.hp_text.specs.Numbers.{is_digit, are_digits, read_on, value, digits_below, past_limit}

-- digits make a number no smaller
read_on_grows : (n : ℕ) (digits : List ℕ) → n ≤ read_on n digits
read_on_grows n [] = omega arith
read_on_grows n (b ∷ bs) = omega (arith, read_on_grows (n * 10 + (b - 48)) bs)

-- so many digits were read, and said n
pub record SoFar (limit i n : ℕ) (ds : List ℕ) : Type 0 where
  pub below : n < limit
  pub rest : read_on n (drop i ds) ≡ value ds
  pub form : are_digits (drop i ds) ≡ are_digits ds

next_form : (b : ℕ) (bs : List ℕ) → is_digit b ≡ true → are_digits (b ∷ bs) ≡ are_digits bs
next_form b bs e = rw e refl

no_form : (b : ℕ) (bs : List ℕ) → is_digit b ≡ false → are_digits (b ∷ bs) ≡ false
no_form b bs e = rw e refl

pub no_digit : (limit i n : ℕ) (ds : List ℕ) → SoFar limit i n ds → i < length ds → is_digit (get_or ds i 0) ≡ false →
    Err NotOfForm ≡ digits_below limit ds
no_digit limit i n ds s inside other =
    let none : are_digits ds ≡ false = sym s.form ∙ at_drop_more are_digits ds i 0 inside ∙ no_form (get_or ds i 0) (drop (i + 1) ds) other in
    rw none refl

pub one_more : (limit i n : ℕ) (ds : List ℕ) → SoFar limit i n ds → i < length ds → is_digit (get_or ds i 0) ≡ true →
    n * 10 + (get_or ds i 0 - 48) < limit → SoFar limit (i + 1) (n * 10 + (get_or ds i 0 - 48)) ds
one_more limit i n ds s inside digit small = record {
  below = small;
  rest = sym (at_drop_more (read_on n) ds i 0 inside) ∙ s.rest;
  form = sym (next_form (get_or ds i 0) (drop (i + 1) ds) digit) ∙ sym (at_drop_more are_digits ds i 0 inside) ∙ s.form;
}

by_form : (limit : ℕ) (ds : List ℕ) (t : Bool) → are_digits ds ≡ t → ltb (value ds) limit ≡ false →
    ◌≡◌ {A = Result ℕ Unread} (Err (past_limit ds)) (digits_below limit ds)
by_form limit ds true e large = rw (e, large) refl
by_form limit ds false e large = rw e refl

pub past : (limit i n : ℕ) (ds : List ℕ) → SoFar limit i n ds → i < length ds → limit ≤ n * 10 + (get_or ds i 0 - 48) →
    ◌≡◌ {A = Result ℕ Unread} (Err (past_limit ds)) (digits_below limit ds)
past limit i n ds s inside le =
    let m = n * 10 + (get_or ds i 0 - 48) in
    let rest : read_on m (drop (i + 1) ds) ≡ value ds = sym (at_drop_more (read_on n) ds i 0 inside) ∙ s.rest in
    by_form limit ds (are_digits ds) refl (le-ltb (value ds) limit (omega (arith, le, rest, read_on_grows m (drop (i + 1) ds))))

pub at_end : (limit i n : ℕ) (ds : List ℕ) → SoFar limit i n ds → length ds ≤ i → Ok n ≡ digits_below limit ds
at_end limit i n ds s over =
    let is : n ≡ value ds = sym (at_drop_all (read_on n) ds i over) ∙ s.rest in
    let form : are_digits ds ≡ true = sym s.form ∙ at_drop_all are_digits ds i over in
    let small : ltb (value ds) limit ≡ true = lt-ltb (value ds) limit (omega (arith, is, s.below)) in
    rw (form, small) (ap (λ (k : ℕ). Ok k) is)

by_test : (n : ℕ) (t : Bool) → ltb n (2 ^ 64) ≡ t → None ≡ cond t (Some n) None → 2 ^ 64 ≤ n
by_test n true is e = absurd cc
by_test n false is e = ltb-false n (2 ^ 64) is

-- a number past the type u64
pub too_large : (n : ℕ) → None ≡ cond (ltb n (2 ^ 64)) (Some n) None → 2 ^ 64 ≤ n
too_large n e = by_test n (ltb n (2 ^ 64)) refl e

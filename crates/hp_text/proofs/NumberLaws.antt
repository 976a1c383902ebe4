-- A number that is read is the number that is spelled, and what is spelled is read again.
use Rattle.std.proofs.Common.{rules, ◌≡◌, ℕ, zero, suc, ◌+◌, ◌^◌, ◌<◌, ◌≤◌, Bool, true, false, cond, not, ◌||◌, eqb, leb, ltb, List, [], ◌∷◌, length, get_or, Ok, Err, refl, sym, ap, subst, ◌∙◌, arith}
use Rattle.std.specs.Prelude.{ℤ, pos, negsuc, Result, IfOk}
use Rattle.std.specs.Fmt.{decimal, signed_decimal}
use Rattle.std.proofs.lemmas.Bool.{eq-eqb, ne_eqb, eqb-true, and_parts, and_from, leb-true, le-leb, ltb-true, lt-ltb}
use Rattle.std.proofs.lemmas.Fmt.{decimal-digits_value, digits_decimal, digits_value-decimal, first_decimal, decimal_nonempty, decimal_digit}
use Rattle.std.proofs.lemmas.Str.Parse.{IsNumeralModel, numerals_by_fold}
use Rattle.hp_model.specs.Lists.{is_empty}
use Rattle.hp_text.specs.declared.unread.Unread.{Unread}
use Rattle.hp_text.specs.declared.unread.Unread.TheVariants.{NotOfForm, OutOfRange}
use Rattle.hp_text.specs.Fits.{IsU32, IsI32}
use Rattle.hp_text.specs.Numbers.{is_digit, are_digits, is_plain, is_number, read_on, value, if_below, at_least, number_below, number_from, long_number, number, negated, natural, integer}

own : IsNumeralModel (λ ds. are_digits ds ≡ true) (read_on 0)
own = numerals_by_fold _ (search rules) read_on (search rules)

-- a first 0 stands alone
only : (b : ℕ) (bs : List ℕ) → b ≡ 48 → is_empty bs || not (eqb b 48) ≡ true → length (b ∷ bs) ≡ 1
only b [] h t = refl
only b (c ∷ cs) h t = let zero : eqb b 48 ≡ true = eq-eqb b 48 h in let none : false ≡ true = rw zero at t in absurd cc

-- what has the form of a number is spelled as its value is
pub number_is : (w : List ℕ) → is_number w ≡ true → value w < 2 ^ 64 → w ≡ decimal (value w)
number_is [] h lt = absurd cc
number_is (b ∷ bs) h lt =
    let u = and_parts (is_plain (b ∷ bs)) (are_digits (b ∷ bs)) h in
    let alone : get_or (b ∷ bs) 0 0 ≡ 48 → length (b ∷ bs) ≡ 1 = λ z. only b bs z u.0 in
    sym (decimal-digits_value own (b ∷ bs) u.1 (omega arith) alone lt)

-- how a number is written
pub record Written (n : ℕ) (w : List ℕ) : Type 0 where
  pub form : is_number w ≡ true
  pub value_is : value w ≡ n
  pub digits : are_digits w ≡ true

plain_first : (n b : ℕ) (bs : List ℕ) → n < 2 ^ 64 → b ∷ bs ≡ decimal n → is_empty bs || not (eqb b 48) ≡ true
plain_first n b [] lt e = refl
plain_first zero b (c ∷ cs) lt e = let d : decimal 0 ≡ 48 ∷ [] = decimal_digit 0 (omega arith) in let f : b ∷ c ∷ cs ≡ 48 ∷ [] = e ∙ d in absurd cc
plain_first (suc n) b (c ∷ cs) lt e =
    let high : 48 < get_or (decimal (suc n)) 0 0 = first_decimal (suc n) (omega arith) lt in
    let first : b ≡ get_or (decimal (suc n)) 0 0 = ap (λ (w : List ℕ). get_or w 0 0) e in
    let other : eqb b 48 ≡ false = ne_eqb b 48 (λ h. omega (arith, h, first, high)) in
    rw other refl

pub written : (n : ℕ) (w : List ℕ) → n < 2 ^ 64 → w ≡ decimal n → Written n w
written n [] lt e = absurd (omega (arith, ap length e, decimal_nonempty n lt))
written n (b ∷ bs) lt e =
    let digits : are_digits (b ∷ bs) ≡ true = subst (λ (w : List ℕ). are_digits w ≡ true) (sym e) (digits_decimal own n lt) in
    record {
      form = and_from (is_plain (b ∷ bs)) (are_digits (b ∷ bs)) (plain_first n b bs lt e) digits;
      value_is = ap (read_on 0) e ∙ digits_value-decimal own n lt;
      digits = digits;
    }

pub decimal_written : (n : ℕ) → n < 2 ^ 64 → Written n (decimal n)
decimal_written n lt = written n (decimal n) lt refl

-- ---- numbers below a limit

below_is : (limit m n : ℕ) (t : Bool) → ltb m limit ≡ t → ◌≡◌ {A = Result ℕ Unread} (cond t (Ok m) (Err OutOfRange)) (Ok n) → (m ≡ n) × (n < limit)
below_is limit m n true e h = let same : m ≡ n = cc in (same, subst (λ k. k < limit) same (ltb-true m limit e))
below_is limit m n false e h = absurd cc

taken : (limit : ℕ) (w : List ℕ) (n : ℕ) (t : Bool) → limit ≤ 2 ^ 64 → is_number w ≡ t → cond t (if_below limit (value w)) (Err NotOfForm) ≡ Ok n → (w ≡ decimal n) × (n < limit)
taken limit w n true le form h =
    let p = below_is limit (value w) n (ltb (value w) limit) refl h in
    (number_is w form (omega (arith, p.0, p.1)) ∙ ap decimal p.0, p.1)
taken limit w n false le form h = absurd cc

pub below_takes : (limit : ℕ) (w : List ℕ) (n : ℕ) → limit ≤ 2 ^ 64 → number_below limit w ≡ Ok n → (w ≡ decimal n) × (n < limit)
unfolding number_below
below_takes limit w n le e = taken limit w n (is_number w) le refl e

pub below_again : (limit n : ℕ) (w : List ℕ) → limit ≤ 2 ^ 64 → n < limit → w ≡ decimal n → number_below limit w ≡ Ok n
unfolding number_below
below_again limit n w le lt e =
    let d = written n w (omega arith) e in
    let small : ltb (value w) limit ≡ true = lt-ltb _ _ (omega (arith, d.value_is)) in
    rw (d.form, small) (ap (λ m. Ok m) d.value_is)

by_least : (low n m : ℕ) (t : Bool) → leb low m ≡ t → ◌≡◌ {A = Result ℕ Unread} (cond t (Ok m) (Err OutOfRange)) (Ok n) → (m ≡ n) × (low ≤ n)
by_least low n m true e h = let same : m ≡ n = cc in (same, subst (λ k. low ≤ k) same (leb-true low m e))
by_least low n m false e h = absurd cc

least_taken : (low n : ℕ) (r : Result ℕ Unread) → at_least low r ≡ Ok n → (r ≡ Ok n) × (low ≤ n)
least_taken low n (Ok m) e = let p = by_least low n m (leb low m) refl e in (ap (λ k. Ok k) p.0, p.1)
least_taken low n (Err u) e = absurd cc

pub from_takes : (low limit : ℕ) (w : List ℕ) (n : ℕ) → limit ≤ 2 ^ 64 → number_from low limit w ≡ Ok n → (w ≡ decimal n) × ((low ≤ n) × (n < limit))
from_takes low limit w n le e =
    let p = least_taken low n (number_below limit w) e in
    let t = below_takes limit w n le p.0 in
    (t.0, (p.1, t.1))

pub from_again : (low limit n : ℕ) (w : List ℕ) → limit ≤ 2 ^ 64 → low ≤ n → n < limit → w ≡ decimal n → number_from low limit w ≡ Ok n
from_again low limit n w le least lt e =
    let t : leb low n ≡ true = le-leb low n least in
    rw (below_again limit n w le lt e, t) refl

-- ---- signed numbers

negated_takes : (bs : List ℕ) (z : ℤ) (r : Result ℕ Unread) → number_below (2 ^ 31 + 1) bs ≡ r → negated r ≡ Ok z → (45 ∷ bs ≡ signed_decimal z) × IsI32 z
negated_takes bs z (Err u) h e = absurd cc
negated_takes bs z (Ok zero) h e = absurd cc
negated_takes bs z (Ok (suc n)) h e =
    let t = below_takes (2 ^ 31 + 1) bs (suc n) (omega arith) h in
    let same : negsuc n ≡ z = cc in
    subst (λ (y : ℤ). (45 ∷ bs ≡ signed_decimal y) × IsI32 y) same (ap (λ (w : List ℕ). 45 ∷ w) t.0, omega (arith, t.1))

natural_takes : (w : List ℕ) (z : ℤ) (r : Result ℕ Unread) → number_below (2 ^ 31) w ≡ r → natural r ≡ Ok z → (w ≡ signed_decimal z) × IsI32 z
natural_takes w z (Err u) h e = absurd cc
natural_takes w z (Ok n) h e =
    let t = below_takes (2 ^ 31) w n (omega arith) h in
    let same : pos n ≡ z = cc in
    subst (λ (y : ℤ). (w ≡ signed_decimal y) × IsI32 y) same t

signed_first : (b : ℕ) (bs : List ℕ) (z : ℤ) (t : Bool) → eqb b 45 ≡ t →
    cond t (negated (number_below (2 ^ 31 + 1) bs)) (natural (number_below (2 ^ 31) (b ∷ bs))) ≡ Ok z →
    (b ∷ bs ≡ signed_decimal z) × IsI32 z
signed_first b bs z true t e =
    let same : b ≡ 45 = eqb-true b 45 t in
    let s = negated_takes bs z (number_below (2 ^ 31 + 1) bs) refl e in
    (ap (λ (c : ℕ). c ∷ bs) same ∙ s.0, s.1)
signed_first b bs z false t e = natural_takes (b ∷ bs) z (number_below (2 ^ 31) (b ∷ bs)) refl e

pub integer_takes : (w : List ℕ) (z : ℤ) → integer w ≡ Ok z → (w ≡ signed_decimal z) × IsI32 z
unfolding integer
integer_takes [] z e = absurd cc
integer_takes (b ∷ bs) z e = signed_first b bs z (eqb b 45) refl e

natural_again : (n : ℕ) (w : List ℕ) → n < 2 ^ 31 → w ≡ decimal n → integer w ≡ Ok (pos n)
unfolding integer
natural_again n [] lt e = absurd (omega (arith, ap length e, decimal_nonempty n (omega arith)))
natural_again n (b ∷ bs) lt e =
    let d = written n (b ∷ bs) (omega arith) e in
    let p = and_parts (is_digit b) (are_digits bs) d.digits in
    let q = and_parts (leb 48 b) (leb b 57) p.0 in
    let low : 48 ≤ b = leb-true _ _ q.0 in
    let other : eqb b 45 ≡ false = ne_eqb b 45 (λ h. omega (arith, h, low)) in
    let again : number_below (2 ^ 31) (b ∷ bs) ≡ Ok n = below_again (2 ^ 31) n (b ∷ bs) (omega arith) lt e in
    rw (other, again) refl

integer_spelled : (z : ℤ) → IsI32 z → integer (signed_decimal z) ≡ Ok z
unfolding integer
integer_spelled (pos n) lt = natural_again n (decimal n) lt refl
integer_spelled (negsuc n) lt =
    let again : number_below (2 ^ 31 + 1) (decimal (suc n)) ≡ Ok (suc n) = below_again (2 ^ 31 + 1) (suc n) (decimal (suc n)) (omega arith) (omega arith) refl in
    rw again refl

pub integer_again : (z : ℤ) (w : List ℕ) → IsI32 z → w ≡ signed_decimal z → integer w ≡ Ok z
integer_again z w fits e = ap integer e ∙ integer_spelled z fits

-- ---- by what is answered

pub number_spelled : (w : List ℕ) (r : Result ℕ Unread) → r ≡ number w → IfOk r (λ n. w ≡ decimal n)
number_spelled w (Ok n) e = (below_takes (2 ^ 32) w n (omega arith) (sym e)).0
number_spelled w (Err u) e = tt

pub number_read : (w : List ℕ) (r : Result ℕ Unread) → r ≡ number w → (n : ℕ) → IsU32 n → w ≡ decimal n → r ≡ Ok n
number_read w r e n fits is = e ∙ below_again (2 ^ 32) n w (omega arith) fits is

pub integer_is_spelled : (w : List ℕ) (r : Result ℤ Unread) → r ≡ integer w → IfOk r (λ z. w ≡ signed_decimal z)
integer_is_spelled w (Ok z) e = (integer_takes w z (sym e)).0
integer_is_spelled w (Err u) e = tt

pub integer_read : (w : List ℕ) (r : Result ℤ Unread) → r ≡ integer w → (z : ℤ) → IsI32 z → w ≡ signed_decimal z → r ≡ Ok z
integer_read w r e z fits is = e ∙ integer_again z w fits is

pub long_spelled : (w : List ℕ) (r : Result ℕ Unread) → r ≡ long_number w → IfOk r (λ n. w ≡ decimal n)
long_spelled w (Ok n) e = (below_takes (2 ^ 64) w n (omega arith) (sym e)).0
long_spelled w (Err u) e = tt

pub long_read : (w : List ℕ) (r : Result ℕ Unread) → r ≡ long_number w → (n : ℕ) → n < 2 ^ 64 → w ≡ decimal n → r ≡ Ok n
long_read w r e n lt is = e ∙ below_again (2 ^ 64) n w (omega arith) lt is

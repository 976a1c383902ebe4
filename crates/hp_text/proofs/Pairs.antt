-- The digits of numbers, by pairs.
use Rattle.std.proofs.Common.{◌≡◌, ℕ, zero, suc, ◌+◌, ◌*◌, ◌/◌, ◌%◌, ◌^◌, ◌<◌, ◌≤◌, Bool, true, ◌&&◌, ◌==◌, [], ◌∷◌, ◌++◌, List, decimal, get_or, false, refl, ⊎_elim, arith, append_assoc}
use Rattle.std.proofs.lemmas.Bool.{cases_lt, eqb-true, false≢true}
use Rattle.std.proofs.lemmas.Fmt.{decimal_digit, decimal_step}
use Rattle.hp_text.specs.declared.pieces.TheConstants.{PAIRS}

-- the two digits of a number below 100, of which the first may be 0
abbrev pub pair : ℕ → List ℕ
pair n = (48 + n / 10) ∷ (48 + n % 10) ∷ []

-- the table has them
abbrev is_pair : (n : ℕ) → Bool
is_pair n = get_or PAIRS (2 * n) 0 == 48 + n / 10 && get_or PAIRS (2 * n + 1) 0 == 48 + n % 10

abbrev are_pairs : (many : ℕ) → Bool
are_pairs zero = true
are_pairs (suc n) = is_pair n && are_pairs n

pub record IsPair (n : ℕ) : Type 0 where
  pub tens : get_or PAIRS (2 * n) 0 ≡ 48 + n / 10
  pub ones : get_or PAIRS (2 * n + 1) 0 ≡ 48 + n % 10

pairs_below : (many n : ℕ) → are_pairs many ≡ true → n < many → IsPair n
pairs_below zero n all h = absurd (omega arith)
pairs_below (suc many) n all h = ⊎_elim (λ (b : n < many). pairs_below many n (both _ _ all).1 b) last (cases_lt n many)
  where
    both : (x y : Bool) → (x && y) ≡ true → (x ≡ true) × (y ≡ true)
    both true y h = (refl, h)
    both false y h = absurd (false≢true h)

    last : many ≤ n → IsPair n
    last b =
        let same : n ≡ many = omega arith in
        let is = both _ _ (both _ _ all).0 in
        rw same (record { tens = eqb-true _ _ is.0; ones = eqb-true _ _ is.1 })

pub pair_at : (n : ℕ) → n < 100 → IsPair n
pair_at n h = pairs_below 100 n refl h

pub two_digits : (n : ℕ) → 10 ≤ n → n < 100 → decimal n ≡ pair n
two_digits n more few = rw (decimal_step n more (omega arith), decimal_digit (n / 10) (omega arith)) refl

-- a number with two digits more
pub two_more : (n : ℕ) → 100 ≤ n → n < 2 ^ 64 → decimal n ≡ decimal (n / 100) ++ pair (n % 100)
two_more n more few =
    let rest : n / 10 / 10 ≡ n / 100 = omega arith in
    let tens : n / 10 % 10 ≡ n % 100 / 10 = omega arith in
    let ones : n % 10 ≡ n % 100 % 10 = omega arith in
    rw (decimal_step n (omega arith) few, decimal_step (n / 10) (omega arith) (omega arith), append_assoc, rest, tens, ← ones) refl

-- and with four
pub four_more : (n : ℕ) → 10000 ≤ n → n < 2 ^ 64 →
    decimal n ≡ decimal (n / 10000) ++ (pair (n % 10000 / 100) ++ pair (n % 10000 % 100))
four_more n more few =
    let rest : n / 100 / 100 ≡ n / 10000 = omega arith in
    let high : n / 100 % 100 ≡ n % 10000 / 100 = omega arith in
    let low : n % 10000 % 100 ≡ n % 100 = omega arith in
    rw (two_more n (omega arith) few, two_more (n / 100) (omega arith) (omega arith), append_assoc, rest, high, low) refl

-- The lowest number in a set from one on: what a shifted word says of the bits of the word, and what is known once a word is passed.
use Rattle.std.proofs.Common.{◌≡◌, ℕ, ◌+◌, ◌-◌, ◌*◌, ◌<◌, ◌≤◌, ◌/◌, ◌%◌, ◌⊎◌, inl, inr, true, false, eqb, get_or, length, ap, sym, ◌∙◌, arith, w64}
use Rattle.std.specs.Prelude.{◌^◌}
use Rattle.std.specs.Int.{bit_at, trailing_zeros}
use Rattle.std.proofs.Math.ListN.{get_or-eq_default}
use Rattle.std.proofs.lemmas.Bool.{cases_lt}
use Rattle.std.proofs.lemmas.Nat.{shr-shr, shr_le}
use Rattle.std.proofs.lemmas.Nat.Bits.{bit_at-zero, bit_at-trailing_zeros, bit_at_above}
use Rattle.hp_states.specs.declared.cpu_set.CpuSet.{CpuSet}
use Rattle.hp_states.specs.CpuSets.{bit, has, IsLowestBit, IsLowestFrom}

-- a shifted word has the bits from a number on
shifted : (word from n : ℕ) → from ≤ n → bit_at word n ≡ bit_at (word / 2 ^ from) (n - from)
shifted word from n h =
    let e : from + (n - from) ≡ n = omega arith in
    ap (bit_at word) (sym e) ∙ ap (λ k. k % 2) (sym (shr-shr word from (n - from)))

set_is : (word n : ℕ) → bit_at word n ≡ 1 → bit word n ≡ true
set_is word n h = ap (λ k. eqb k 1) h

clear_is : (word n : ℕ) → bit_at word n ≡ 0 → bit word n ≡ false
clear_is word n h = ap (λ k. eqb k 1) h

pub no_bit : (word from : ℕ) → word / 2 ^ from ≡ 0 → (n : ℕ) → from ≤ n → bit word n ≡ false
no_bit word from e n h =
    clear_is word n (shifted word from n h ∙ (ap (λ w. bit_at w (n - from)) e ∙ bit_at-zero (n - from)))

-- a word of 64 bits has no bit above them
inside : (word n : ℕ) → word < 2 ^ 64 → bit_at word n ≡ 1 → n < 64
inside word n fits one = go (cases_lt n 64)
  where
    go : (n < 64) ⊎ (64 ≤ n) → n < 64
    go (inl h) = h
    go (inr h) = let none = bit_at_above word 64 n fits h in absurd (omega (arith, one, none))

pub lowest : (word from : ℕ) → word < 2 ^ 64 → from < 64 → 0 < word / 2 ^ from →
    IsLowestBit word from (from + trailing_zeros w64 (word / 2 ^ from))
lowest word from fits lt some =
    let rest = word / 2 ^ from in
    let z = trailing_zeros w64 rest in
    let small : rest < 2 ^ 64 = let l = shr_le word from in omega (arith, l) in
    let is = bit_at-trailing_zeros w64 rest some small in
    let back : (from + z) - from ≡ z = omega arith in
    let one : bit_at word (from + z) ≡ 1 =
    shifted word from (from + z) (omega arith) ∙ (ap (bit_at rest) back ∙ is.1)
    in
    record {
      within = inside word (from + z) fits one;
      at_least = omega arith;
      is_set = set_is word (from + z) one;
      none_below = λ other a b.
          clear_is word other (shifted word from other a ∙ is.2 (other - from) (omega (arith, a, b)));
    }

-- no number from one on is in the words that were passed, and none is in this one
pub passed : (set : CpuSet) (from at : ℕ) → ((n : ℕ) → from - 64 * at ≤ n → bit (get_or set.words at 0) n ≡ false) →
    ((c : ℕ) → from ≤ c → c < 64 * at → has set c ≡ false) → (c : ℕ) → from ≤ c → c < 64 * (at + 1) → has set c ≡ false
unfolding has
passed set from at none before c a b = go (cases_lt c (64 * at))
  where
    go : (c < 64 * at) ⊎ (64 * at ≤ c) → has set c ≡ false
    go (inl h) = before c a h
    go (inr h) =
        let q : c / 64 ≡ at = omega (arith, h, b) in
        rw q (none (c % 64) (omega (arith, h, a, b)))

-- the lowest bit of a word is the lowest number from one on, where none is in the words that were passed
pub found : (set : CpuSet) (from at n : ℕ) → at < 4 → IsLowestBit (get_or set.words at 0) (from - 64 * at) n →
    ((c : ℕ) → from ≤ c → c < 64 * at → has set c ≡ false) → IsLowestFrom set from (64 * at + n)
unfolding has
found set from at n lt is before =
    let small = is.within in
    let least = is.at_least in
    let q : (64 * at + n) / 64 ≡ at = omega (arith, small) in
    let r : (64 * at + n) % 64 ≡ n = omega (arith, small) in
    record {
      within = omega (arith, lt, small);
      at_least = omega (arith, least);
      is_in = rw (q, r) is.is_set;
      none_below = λ c a b. below c a b (cases_lt c (64 * at));
    }
  where
    below : (c : ℕ) → from ≤ c → c < 64 * at + n → (c < 64 * at) ⊎ (64 * at ≤ c) → has set c ≡ false
    below c a b (inl h) = before c a h
    below c a b (inr h) =
        let small = is.within in
        let q : c / 64 ≡ at = omega (arith, h, b, small) in
        rw q (is.none_below (c % 64) (omega (arith, h, a, b)) (omega (arith, h, b, small)))

-- a set has four words
pub past : (set : CpuSet) → length set.words ≡ 4 → (c : ℕ) → 256 ≤ c → has set c ≡ false
unfolding has
past set four c h =
    ap (λ w. bit w (c % 64)) (get_or-eq_default set.words 0 {n = c / 64} (omega (arith, four, h)))
    ∙ ap (λ k. eqb k 1) (bit_at-zero (c % 64))

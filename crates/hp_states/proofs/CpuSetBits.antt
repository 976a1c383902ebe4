-- A number put into a set of processors, and taken out: what the words say of each number.
use Rattle.std.proofs.Common.{◌≡◌, ◌≢◌, ℕ, zero, suc, [], ◌∷◌, ◌-◌, ◌*◌, ◌<◌, ◌/◌, ◌%◌, Bool, true, false, not, ◌&&◌, ◌||◌, eqb, get_or, length, List, refl, ap, sym, ◌∙◌, arith, bit_and, bit_or, w64, get_or-set_same, get_or-set_other}
use Rattle.std.specs.Prelude.{◌^◌}
use Rattle.std.proofs.Math.ListN.{set}
use Rattle.std.proofs.lemmas.Bool.{eqb-true, eqb-false, eq-eqb}
use Rattle.std.proofs.lemmas.Nat.Bits.{bit_at-zero, bit_at_set_same, bit_at_set_other, bit_at_clear_same, bit_at_clear_other}
use Rattle.hp_states.specs.CpuSets.{bit}

-- two numbers are one where both parts are
parts : (c d : ℕ) → d / 64 ≡ c / 64 → d % 64 ≡ c % 64 → d ≡ c
parts c d q r = omega (arith, q, r)

within : (c : ℕ) → c % 64 < 64
within c = omega arith

abbrev pub mask : ℕ → ℕ
mask c = 1 * 2 ^ (c % 64) % 18446744073709551616

other_test : (c d : ℕ) → (d ≡ c → ⊥) → eqb d c ≡ false
other_test c d h = go (eqb d c) refl
  where
    go : (b : Bool) → eqb d c ≡ b → b ≡ false
    go true e = absurd (h (eqb-true d c e))
    go false e = refl

-- a word at one place changed: what it says of each number
pub put_bits : (ws : List ℕ) (c d : ℕ) → c / 64 < length ws →
    bit (get_or (set ws (c / 64) (bit_or (get_or ws (c / 64) 0) (mask c))) (d / 64) 0) (d % 64)
    ≡ (eqb d c || bit (get_or ws (d / 64) 0) (d % 64))
put_bits ws c d below = go (eqb (d / 64) (c / 64)) refl (eqb (d % 64) (c % 64)) refl
  where
    w : ℕ
    w = bit_or (get_or ws (c / 64) 0) (mask c)

    same_word : d / 64 ≡ c / 64 → get_or (set ws (c / 64) w) (d / 64) 0 ≡ w
    same_word q = ap (λ n. get_or (set ws (c / 64) w) n 0) q ∙ get_or-set_same ws (c / 64) w 0 below

    go : (a : Bool) → eqb (d / 64) (c / 64) ≡ a → (b : Bool) → eqb (d % 64) (c % 64) ≡ b →
        bit (get_or (set ws (c / 64) w) (d / 64) 0) (d % 64) ≡ (eqb d c || bit (get_or ws (d / 64) 0) (d % 64))
    go true e true f =
        let q = eqb-true (d / 64) (c / 64) e in
        let r = eqb-true (d % 64) (c % 64) f in
        let s : eqb d c ≡ true = eq-eqb d c (parts c d q r) in
        let one = bit_at_set_same w64 (get_or ws (c / 64) 0) (c % 64) (within c) in
        ap (λ z. bit z (d % 64)) (same_word q) ∙ (ap (λ n. bit w n) r ∙ (ap (λ n. eqb n 1) one ∙ rw s refl))
    go true e false f =
        let q = eqb-true (d / 64) (c / 64) e in
        let apart : d % 64 ≢ c % 64 = eqb-false (d % 64) (c % 64) f in
        let s : eqb d c ≡ false = other_test c d (λ h. apart (ap (λ n. n % 64) h)) in
        let one = bit_at_set_other w64 (get_or ws (c / 64) 0) (c % 64) (within c) (d % 64) apart in
        ap (λ z. bit z (d % 64)) (same_word q)
        ∙ (ap (λ n. eqb n 1) one ∙ (rw s (ap (λ n. bit (get_or ws n 0) (d % 64)) (sym q))))
    go false e b f =
        let apart : d / 64 ≢ c / 64 = eqb-false (d / 64) (c / 64) e in
        let s : eqb d c ≡ false = other_test c d (λ h. apart (ap (λ n. n / 64) h)) in
        rw s (ap (λ z. bit z (d % 64)) (get_or-set_other ws (c / 64) (d / 64) w 0 apart))

pub take_bits : (ws : List ℕ) (c d : ℕ) → c / 64 < length ws →
    bit (get_or (set ws (c / 64) (bit_and (get_or ws (c / 64) 0) (18446744073709551615 - mask c))) (d / 64) 0) (d % 64)
    ≡ (not (eqb d c) && bit (get_or ws (d / 64) 0) (d % 64))
take_bits ws c d below = go (eqb (d / 64) (c / 64)) refl (eqb (d % 64) (c % 64)) refl
  where
    w : ℕ
    w = bit_and (get_or ws (c / 64) 0) (18446744073709551615 - mask c)

    same_word : d / 64 ≡ c / 64 → get_or (set ws (c / 64) w) (d / 64) 0 ≡ w
    same_word q = ap (λ n. get_or (set ws (c / 64) w) n 0) q ∙ get_or-set_same ws (c / 64) w 0 below

    go : (a : Bool) → eqb (d / 64) (c / 64) ≡ a → (b : Bool) → eqb (d % 64) (c % 64) ≡ b →
        bit (get_or (set ws (c / 64) w) (d / 64) 0) (d % 64) ≡ (not (eqb d c) && bit (get_or ws (d / 64) 0) (d % 64))
    go true e true f =
        let q = eqb-true (d / 64) (c / 64) e in
        let r = eqb-true (d % 64) (c % 64) f in
        let s : eqb d c ≡ true = eq-eqb d c (parts c d q r) in
        let one = bit_at_clear_same w64 (get_or ws (c / 64) 0) (c % 64) (within c) in
        ap (λ z. bit z (d % 64)) (same_word q) ∙ (ap (λ n. bit w n) r ∙ (ap (λ n. eqb n 1) one ∙ rw s refl))
    go true e false f =
        let q = eqb-true (d / 64) (c / 64) e in
        let apart : d % 64 ≢ c % 64 = eqb-false (d % 64) (c % 64) f in
        let s : eqb d c ≡ false = other_test c d (λ h. apart (ap (λ n. n % 64) h)) in
        let one = bit_at_clear_other w64 (get_or ws (c / 64) 0) (c % 64) (within c) (d % 64) (within d) apart in
        ap (λ z. bit z (d % 64)) (same_word q)
        ∙ (ap (λ n. eqb n 1) one ∙ (rw s (ap (λ n. bit (get_or ws n 0) (d % 64)) (sym q))))
    go false e b f =
        let apart : d / 64 ≢ c / 64 = eqb-false (d / 64) (c / 64) e in
        let s : eqb d c ≡ false = other_test c d (λ h. apart (ap (λ n. n / 64) h)) in
        rw s (ap (λ z. bit z (d % 64)) (get_or-set_other ws (c / 64) (d / 64) w 0 apart))

-- the empty set
abbrev pub no_words : List ℕ
no_words = 0 ∷ 0 ∷ 0 ∷ 0 ∷ []

no_word : (n : ℕ) → ◌≡◌ {A = ℕ} (get_or no_words n 0) 0
no_word zero = refl
no_word (suc zero) = refl
no_word (suc (suc zero)) = refl
no_word (suc (suc (suc zero))) = refl
no_word (suc (suc (suc (suc n)))) = refl

pub no_bits : (c : ℕ) → bit (get_or no_words (c / 64) 0) (c % 64) ≡ false
no_bits c = ap (λ z. bit z (c % 64)) (no_word (c / 64)) ∙ ap (λ n. eqb n 1) (bit_at-zero (c % 64))

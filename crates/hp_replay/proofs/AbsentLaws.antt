-- The absent processors of a head: numbers that rise, from 1.
use Rattle.std.proofs.Common.{◌≡◌, ℕ, zero, suc, ◌+◌, ◌^◌, ◌<◌, ◌≤◌, true, false, eqb, List, [], ◌∷◌, map, refl, arith}
use Rattle.std.specs.Prelude.{decimal, All}
use Rattle.std.specs.List.Sorted.{IsStrictlyIncreasing}
use Rattle.std.proofs.lemmas.Bool.{ne_eqb, lt-ltb}
use Rattle.std.proofs.lemmas.List.Elements.{recursion_from_All}
use Rattle.hp_model.specs.Lists.{occurs, among}
use Rattle.hp_model.proofs.Rising.{Rise, FirstFrom, increasing_rise}
use Rattle.hp_replay.proofs.LineLaws.{all_free, decimal_free}

pub rise_free : (low limit : ℕ) (ns : List ℕ) → limit ≤ 2 ^ 64 → Rise low limit ns → all_free (map decimal ns) ≡ true
rise_free low limit [] le h = refl
rise_free low limit (n ∷ ns) le h = rw (decimal_free n (omega (arith, h.1))) (rise_free (n + 1) limit ns le h.2)

-- ---- the words of heads

pub zero_not_among : (low limit : ℕ) (ns : List ℕ) → 1 ≤ low → Rise low limit ns → occurs 0 ns ≡ 0
zero_not_among low limit [] le h = refl
zero_not_among low limit (n ∷ ns) le h =
    let other : eqb n 0 ≡ false = ne_eqb n 0 (λ s. omega (arith, h.0, le, s)) in
    rw (other, zero_not_among (n + 1) limit ns (omega arith) h.2) refl

no_zero_first : (ns : List ℕ) → among 0 ns ≡ false → FirstFrom 1 ns
no_zero_first [] h = tt
no_zero_first (zero ∷ ns) h = let some : among 0 (0 ∷ ns) ≡ true = lt-ltb _ _ (omega arith) in absurd cc
no_zero_first (suc n ∷ ns) h = omega arith

-- the absent processors of a head rise from 1
pub absent_rise : (limit : ℕ) (ns : List ℕ) → IsStrictlyIncreasing ns → All (λ c. c < limit) ns → among 0 ns ≡ false → Rise 1 limit ns
absent_rise limit ns h a z = increasing_rise 1 limit ns (no_zero_first ns z) (recursion_from_All (λ c. c < limit) ns a) h

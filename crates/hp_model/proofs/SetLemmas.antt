-- A set of processors and its numbers: what the words of a set made of numbers say, and that a set is known by what it has.
use Rattle.std.proofs.Common.{◌≡◌, ℕ, zero, suc, ◌+◌, ◌*◌, ◌/◌, ◌%◌, ◌<◌, ◌≤◌, Bool, true, false, not, cond, ◌||◌, eqb, ltb, get_or, List, [], ◌∷◌, ◌++◌, refl, ap, sym, ◌∙◌, arith}
use Rattle.std.specs.Prelude.{◌^◌, filter, All}
use Rattle.std.specs.Int.{bit_at}
use Rattle.std.specs.List.Sorted.{IsStrictlyIncreasing}
use Rattle.std.proofs.Math.Nat.{pow-succ'}
use Rattle.std.proofs.lemmas.Bool.{lt-ltb}
use Rattle.std.proofs.lemmas.Bool.Decides.{nat_tests}
use Rattle.std.proofs.lemmas.Grind.{same_number_lists}
use Rattle.std.proofs.lemmas.List.Elements.{All-from_recursion, All-get_or}
use Rattle.std.proofs.lemmas.Nat.Bits.{bit_at-suc, bit_at_lowest, bit_at-lt, same_from_bits_below}
use Rattle.hp_states.specs.declared.cpu_set.CpuSet.{CpuSet}
use Rattle.hp_states.specs.CpuSets.{bit, has}
use Rattle.hp_states.proofs.CpuSetLowest.{past}
use Rattle.hp_model.specs.Lists.{is_empty, occurs, among, numbers}
use Rattle.hp_model.specs.Listed.{listed}
use Rattle.hp_model.specs.SetOf.{bits_of, set_of, IsSet}
use Rattle.hp_model.proofs.Counts.{occurs-append}
use Rattle.hp_model.proofs.ListLemmas.{into_filter, occurs-filter, occurs-numbers}
use Rattle.hp_model.proofs.Rising.{Rise, rise_within, rise_same, filter_rises, rise_from_increasing}

-- ---- the words of a set that is made of numbers

lowest : (b : Bool) (n : ℕ) → bit (cond b 1 0 + 2 * n) 0 ≡ b
lowest true n =
    let odd : (1 + 2 * n) % 2 ≡ 1 = omega arith in
    ap (λ k. eqb k 1) (bit_at_lowest (1 + 2 * n) ∙ odd)
lowest false n =
    let even : (0 + 2 * n) % 2 ≡ 0 = omega arith in
    ap (λ k. eqb k 1) (bit_at_lowest (0 + 2 * n) ∙ even)

half : (b : Bool) (n : ℕ) → (cond b 1 0 + 2 * n) / 2 ≡ n
half true n = omega arith
half false n = omega arith

pub bits_said : (ns : List ℕ) (from count b : ℕ) → b < count → bit (bits_of ns from count) b ≡ among (from + b) ns
unfolding bits_of
bits_said ns from zero b lt = absurd (omega arith)
bits_said ns from (suc count) zero lt =
    let z : from + 0 ≡ from = omega arith in
    lowest (among from ns) (bits_of ns (from + 1) count) ∙ ap (λ n. among n ns) (sym z)
bits_said ns from (suc count) (suc b) lt =
    let z : from + 1 + b ≡ from + suc b = omega arith in
    ap (λ k. eqb k 1) (bit_at-suc (cond (among from ns) 1 0 + 2 * bits_of ns (from + 1) count) b ∙ ap (λ w. bit_at w b) (half (among from ns) (bits_of ns (from + 1) count)))
    ∙ (bits_said ns (from + 1) count b (omega arith) ∙ ap (λ n. among n ns) z)

at_most_one : (b : Bool) → cond b 1 0 < 2
at_most_one true = omega arith
at_most_one false = omega arith

pub bits_fit : (ns : List ℕ) (from count : ℕ) → bits_of ns from count < 2 ^ count
unfolding bits_of
bits_fit ns from zero = omega arith
bits_fit ns from (suc count) =
    let p = pow-succ' 2 count in
    let a = at_most_one (among from ns) in
    let b = bits_fit ns (from + 1) count in
    rw p (omega (arith, a, b))

pub set_fits : (ns : List ℕ) → IsSet (set_of ns)
unfolding set_of
set_fits ns = record {
  four = refl;
  words_fit = All-from_recursion (λ (w : ℕ). w < 2 ^ 64)
      (bits_of ns 0 64 ∷ bits_of ns 64 64 ∷ bits_of ns 128 64 ∷ bits_of ns 192 64 ∷ [])
      (bits_fit ns 0 64, (bits_fit ns 64 64, (bits_fit ns 128 64, (bits_fit ns 192 64, tt))));
}

word_at : (ns : List ℕ) (k : ℕ) → k < 4 → get_or (set_of ns).words k 0 ≡ bits_of ns (64 * k) 64
unfolding set_of
word_at ns zero lt = refl
word_at ns (suc zero) lt = refl
word_at ns (suc (suc zero)) lt = refl
word_at ns (suc (suc (suc zero))) lt = refl
word_at ns (suc (suc (suc (suc k)))) lt = absurd (omega arith)

-- a set has the numbers below 256 that it was made of, and no other
pub has_of : (ns : List ℕ) (c : ℕ) → c < 256 → has (set_of ns) c ≡ among c ns
unfolding has
has_of ns c lt =
    let e : 64 * (c / 64) + c % 64 ≡ c = omega arith in
    ap (λ w. bit w (c % 64)) (word_at ns (c / 64) (omega arith))
    ∙ (bits_said ns (64 * (c / 64)) 64 (c % 64) (omega arith) ∙ ap (λ n. among n ns) e)

pub has_past : (set : CpuSet) (c : ℕ) → IsSet set → 256 ≤ c → has set c ≡ false
has_past set c h le = past set h.four c le

-- ---- a set is known by what it has

same_bits : (w v b : ℕ) → bit w b ≡ bit v b → bit_at w b ≡ bit_at v b
same_bits w v b h =
    let l = bit_at-lt w b in
    let m = bit_at-lt v b in
    go (bit_at w b) (bit_at v b) l m h
  where
    go : (x y : ℕ) → x < 2 → y < 2 → eqb x 1 ≡ eqb y 1 → x ≡ y
    go x y l m h = grind (arith, nat_tests)

pub same_set : (s t : CpuSet) → IsSet s → IsSet t → ((c : ℕ) → c < 256 → has s c ≡ has t c) → s ≡ t
unfolding has
same_set s t a b h =
    ap (λ (ws : List ℕ). record { words = ws })
    (same_number_lists s.words t.words (a.four ∙ sym b.four)
    (λ k lt. same_from_bits_below 64 (get_or s.words k 0) (get_or t.words k 0)
    (All-get_or (λ (w : ℕ). w < 2 ^ 64) s.words k 0 lt a.words_fit)
    (All-get_or (λ (w : ℕ). w < 2 ^ 64) t.words k 0 (let p = a.four in let q = b.four in omega arith) b.words_fit)
    (λ i below. at_bit k i (let p = a.four in omega arith) below)))
  where
    at_bit : (k i : ℕ) → k < 4 → i < 64 → bit_at (get_or s.words k 0) i ≡ bit_at (get_or t.words k 0) i
    at_bit k i lt below =
        let q : (64 * k + i) / 64 ≡ k = omega arith in
        let r : (64 * k + i) % 64 ≡ i = omega arith in
        let e = h (64 * k + i) (omega arith) in
        same_bits (get_or s.words k 0) (get_or t.words k 0) i (rw (q, r) at e)

-- ---- what a set lists

listed_among : (p : ℕ → Bool) (n c : ℕ) → among c (filter p (numbers n)) ≡ cond (ltb c n) (p c) false
listed_among p n c = rw (occurs-filter p c (numbers n), occurs-numbers c n) (go (p c) (ltb c n))
  where
    go : (a b : Bool) → ltb 0 (cond a (cond b 1 0) 0) ≡ cond b a false
    go true true = refl
    go true false = refl
    go false true = refl
    go false false = refl

pub among_listed : (set : CpuSet) (c : ℕ) → IsSet set → among c (listed set) ≡ has set c
unfolding listed
among_listed set c h = listed_among (has set) 256 c ∙ go (ltb c 256) refl
  where
    go : (b : Bool) → ltb c 256 ≡ b → cond b (has set c) false ≡ has set c
    go true e = refl
    go false e = sym (has_past set c h (grind (arith, nat_tests)))

pub listed_rises : (set : CpuSet) → Rise 0 256 (listed set)
unfolding listed
listed_rises set = filter_rises (has set) 256

pub of_listed : (set : CpuSet) → IsSet set → set_of (listed set) ≡ set
of_listed set h =
    same_set (set_of (listed set)) set (set_fits (listed set)) h
    (λ c lt. has_of (listed set) c lt ∙ among_listed set c h)

none_past : (ns : List ℕ) (c : ℕ) → Rise 0 256 ns → 256 ≤ c → among c ns ≡ false
none_past ns c h le = go (among c ns) refl
  where
    go : (b : Bool) → among c ns ≡ b → b ≡ false
    go false e = refl
    go true e = absurd (let w = rise_within 0 256 c ns h (grind (arith, nat_tests)) in omega (arith, w.1))

pub listed_of : (ns : List ℕ) → Rise 0 256 ns → listed (set_of ns) ≡ ns
listed_of ns h =
    rise_same 0 0 256 (listed (set_of ns)) ns (listed_rises (set_of ns)) h
    (λ c. among_listed (set_of ns) c (set_fits ns) ∙ go c (ltb c 256) refl)
  where
    go : (c : ℕ) (b : Bool) → ltb c 256 ≡ b → has (set_of ns) c ≡ among c ns
    go c true e = has_of ns c (grind (arith, nat_tests))
    go c false e = has_past (set_of ns) c (set_fits ns) (grind (arith, nat_tests)) ∙ sym (none_past ns c h (grind (arith, nat_tests)))

-- ---- one number more, as `put` of the code leaves it

among_push : (ns : List ℕ) (n c : ℕ) → among c (ns ++ n ∷ []) ≡ (eqb c n || among c ns)
among_push ns n c = rw (occurs-append c ns (n ∷ [])) (grind (arith, nat_tests))

pub put_one : (ns : List ℕ) (n : ℕ) (set : CpuSet) → IsSet set → ((c : ℕ) → has set c ≡ (eqb c n || has (set_of ns) c)) → set ≡ set_of (ns ++ n ∷ [])
put_one ns n set h k =
    same_set set (set_of (ns ++ n ∷ [])) h (set_fits (ns ++ n ∷ []))
    (λ c lt. k c ∙ (ap (λ b. eqb c n || b) (has_of ns c lt) ∙ (sym (among_push ns n c) ∙ sym (has_of (ns ++ n ∷ []) c lt))))

pub none_put : (set : CpuSet) → IsSet set → ((c : ℕ) → has set c ≡ false) → set ≡ set_of []
none_put set h k = same_set set (set_of []) h (set_fits []) (λ c lt. k c ∙ sym (has_of [] c lt))

-- ---- the laws

pub increasing_listed : (ns : List ℕ) → IsStrictlyIncreasing ns → All (λ c. c < 256) ns → listed (set_of ns) ≡ ns
increasing_listed ns h a = listed_of ns (rise_from_increasing 256 ns a h)

-- ---- whether a set lists any

-- one is listed
pub one_listed : (set : CpuSet) (c : ℕ) → c < 256 → has set c ≡ true → not (is_empty (listed set)) ≡ true
unfolding listed
one_listed set c lt h =
    go (filter (has set) (numbers 256)) (into_filter (has set) c (numbers 256) h (rw (occurs-numbers c 256, lt-ltb c 256 lt) (omega arith)))
  where
    go : (xs : List ℕ) → 0 < occurs c xs → not (is_empty xs) ≡ true
    go [] o = absurd (omega arith)
    go (x ∷ xs) o = refl

-- none is listed
pub none_listed : (set : CpuSet) → ((c : ℕ) → has set c ≡ false) → listed set ≡ []
unfolding listed
none_listed set h = go (numbers 256)
  where
    go : (xs : List ℕ) → filter (has set) xs ≡ []
    go [] = refl
    go (x ∷ xs) = rw (h x) (go xs)

-- as the code's test whether a set is empty says it
pub lists_some : (set : CpuSet) (b : Bool) → (b ≡ true → (c : ℕ) → has set c ≡ false) →
    (b ≡ false → (c : ℕ) × (c < 256) × (has set c ≡ true)) → not b ≡ not (is_empty (listed set))
lists_some set true none some = rw (none_listed set (none refl)) refl
lists_some set false none some = let one = some refl in sym (one_listed set one.0 one.1 one.2)

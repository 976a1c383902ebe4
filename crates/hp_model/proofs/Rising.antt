-- Numbers that rise: below a limit, each above the one before it.
use Rattle.std.proofs.Common.{◌≡◌, ◌≢◌, ℕ, zero, suc, ◌+◌, ◌<◌, ◌≤◌, Bool, true, false, cond, eqb, ltb, List, [], ◌∷◌, ◌++◌, length, refl, ap, sym, ◌∙◌, arith}
use Rattle.std.specs.Prelude.{slice_index, filter, All}
use Rattle.std.specs.List.{AllByRecursion}
use Rattle.std.specs.List.Sorted.{IsStrictlyIncreasing}
use Rattle.std.proofs.lemmas.Bool.{true≢false, ne_eqb, eq-eqb, eqb-true}
use Rattle.std.proofs.lemmas.List.Elements.{All-from_recursion, recursion_from_All, filter-append}
use Rattle.hp_model.specs.Lists.{occurs, among, numbers}
use Rattle.hp_model.proofs.ListLemmas.{is_among, occurs_among, once_in}

abbrev pub Rise : (low limit : ℕ) → List ℕ → Type 0
Rise low limit [] = Unit {0}
Rise low limit (n ∷ ns) = (low ≤ n) × (n < limit) × Rise (n + 1) limit ns

-- ---- by std's words

below_all : (low limit : ℕ) (ns : List ℕ) → Rise low limit ns → AllByRecursion (λ c. c < limit) ns
below_all low limit [] h = tt
below_all low limit (n ∷ ns) h = (h.1, below_all (n + 1) limit ns h.2)

pub rise_below : (low limit : ℕ) (ns : List ℕ) → Rise low limit ns → All (λ c. c < limit) ns
rise_below low limit ns h = All-from_recursion (λ c. c < limit) ns (below_all low limit ns h)

one_more : (n m limit : ℕ) (ns : List ℕ) → n < m → IsStrictlyIncreasing (m ∷ ns) → (k : ℕ) → k + 1 < length (n ∷ m ∷ ns) → slice_index (n ∷ m ∷ ns) k < slice_index (n ∷ m ∷ ns) (k + 1)
one_more n m limit ns lt h zero inside = lt
one_more n m limit ns lt h (suc k) inside =
    let e : suc k + 1 ≡ suc (k + 1) = omega arith in
    rw e (h k (omega (arith, inside)))

pub rise_increases : (low limit : ℕ) (ns : List ℕ) → Rise low limit ns → IsStrictlyIncreasing ns
rise_increases low limit [] h = λ k inside. absurd (omega arith)
rise_increases low limit (n ∷ []) h = λ k inside. absurd (omega arith)
rise_increases low limit (n ∷ m ∷ ns) h = one_more n m limit ns (omega (arith, h.2.0)) (rise_increases (n + 1) limit (m ∷ ns) h.2)

abbrev pub FirstFrom : ℕ → List ℕ → Type 0
FirstFrom low [] = Unit {0}
FirstFrom low (n ∷ ns) = low ≤ n

tail_increases : (n : ℕ) (ns : List ℕ) → IsStrictlyIncreasing (n ∷ ns) → IsStrictlyIncreasing ns
tail_increases n ns h k inside =
    let e : suc k + 1 ≡ suc (k + 1) = omega arith in
    let more = h (suc k) (omega (arith, inside)) in
    rw e at more

first_above : (n : ℕ) (ns : List ℕ) → IsStrictlyIncreasing (n ∷ ns) → FirstFrom (n + 1) ns
first_above n [] h = tt
first_above n (m ∷ ns) h = omega (arith, h 0 (omega arith))

pub increasing_rise : (low limit : ℕ) (ns : List ℕ) → FirstFrom low ns → AllByRecursion (λ c. c < limit) ns → IsStrictlyIncreasing ns → Rise low limit ns
increasing_rise low limit [] f a h = tt
increasing_rise low limit (n ∷ ns) f a h = (f, a.0, increasing_rise (n + 1) limit ns (first_above n ns h) a.1 (tail_increases n ns h))

any_first : (ns : List ℕ) → FirstFrom 0 ns
any_first [] = tt
any_first (n ∷ ns) = omega arith

pub rise_from_increasing : (limit : ℕ) (ns : List ℕ) → All (λ c. c < limit) ns → IsStrictlyIncreasing ns → Rise 0 limit ns
rise_from_increasing limit ns a h = increasing_rise 0 limit ns (any_first ns) (recursion_from_All (λ c. c < limit) ns a) h

-- ---- one more at the end, and a filter

pub rise_push : (low limit n : ℕ) (ns : List ℕ) → low ≤ n → n < limit → Rise low n ns → Rise low limit (ns ++ n ∷ [])
rise_push low limit n [] from below h = (from, below, tt)
rise_push low limit n (m ∷ ns) from below h =
    (h.0, omega (arith, h.1), rise_push (m + 1) limit n ns (omega (arith, h.1)) below h.2)

pub rise_wider : (low limit more : ℕ) (ns : List ℕ) → limit ≤ more → Rise low limit ns → Rise low more ns
rise_wider low limit more [] le h = tt
rise_wider low limit more (n ∷ ns) le h = (h.0, omega (arith, h.1), rise_wider (n + 1) limit more ns le h.2)

pub filter_rises : (p : ℕ → Bool) (n : ℕ) → Rise 0 n (filter p (numbers n))
filter_rises p zero = tt
filter_rises p (suc n) = rw (filter-append p (numbers n) (n ∷ [])) (go (p n) (filter_rises p n))
  where
    same : (xs : List ℕ) → xs ++ [] ≡ xs
    same [] = refl
    same (x ∷ xs) = ap (λ ys. x ∷ ys) (same xs)

    go : (b : Bool) → Rise 0 n (filter p (numbers n)) → Rise 0 (suc n) (filter p (numbers n) ++ cond b (n ∷ []) [])
    go true h = rise_push 0 (suc n) n (filter p (numbers n)) (omega arith) (omega arith) h
    go false h = rw same (rise_wider 0 n (suc n) (filter p (numbers n)) (omega arith) h)

-- ---- numbers that rise are known by which they are

-- none of them is below the first, nor from the limit on
pub rise_within : (low limit c : ℕ) (ns : List ℕ) → Rise low limit ns → 0 < occurs c ns → (low ≤ c) × (c < limit)
rise_within low limit c [] h o = absurd (omega arith)
rise_within low limit c (n ∷ ns) h o = go (eqb n c) refl (λ k. rise_within (n + 1) limit c ns h.2 k)
  where
    go : (b : Bool) → eqb n c ≡ b → (0 < occurs c ns → (n + 1 ≤ c) × (c < limit)) → (low ≤ c) × (c < limit)
    go true e more = let s = eqb-true n c e in (omega (arith, h.0), omega (arith, h.1))
    go false e more =
        let p : occurs c (n ∷ ns) ≡ occurs c ns = rw e (omega arith) in
        let m = more (omega arith) in
        (omega (arith, m.0, h.0), m.1)

-- another number than the first is among them where it is among the others
behind_first : (c n : ℕ) (ns : List ℕ) → c ≢ n → among c (n ∷ ns) ≡ among c ns
behind_first c n ns h =
    let e : eqb n c ≡ false = ne_eqb n c (λ s. h (sym s)) in
    let same : occurs c (n ∷ ns) ≡ occurs c ns = rw e (omega arith) in
    ap (λ k. ltb 0 k) same

-- the first isn't among the others
first_once : (n low limit : ℕ) (ns : List ℕ) → n < low → Rise low limit ns → among n ns ≡ false
first_once n low limit ns lt h = go (among n ns) refl
  where
    go : (b : Bool) → among n ns ≡ b → b ≡ false
    go false e = refl
    go true e = absurd (let w = rise_within low limit n ns h (occurs_among n ns e) in omega (arith, w.0))

pub rise_same : (low also limit : ℕ) (xs ys : List ℕ) → Rise low limit xs → Rise also limit ys → ((c : ℕ) → among c xs ≡ among c ys) → xs ≡ ys
rise_same low also limit [] [] h k s = refl
rise_same low also limit [] (y ∷ ys) h k s = absurd (true≢false (sym (is_among y (y ∷ ys) (once_in y ys)) ∙ sym (s y)))
rise_same low also limit (x ∷ xs) [] h k s = absurd (true≢false (sym (is_among x (x ∷ xs) (once_in x xs)) ∙ s x))
rise_same low also limit (x ∷ xs) (y ∷ ys) h k s =
    let a : y ≤ x = least y x limit ys (k.1, k.2) (sym (s x) ∙ is_among x (x ∷ xs) (once_in x xs)) in
    let b : x ≤ y = least x y limit xs (h.1, h.2) (s y ∙ is_among y (y ∷ ys) (once_in y ys)) in
    let e : x ≡ y = omega arith in
    ap (λ n. n ∷ xs) e
    ∙ ap (λ zs. y ∷ zs) (rise_same (x + 1) (y + 1) limit xs ys h.2 k.2 (λ c. others c e (eqb c x) refl))
  where
    least : (n c limit : ℕ) (ns : List ℕ) → (n < limit) × Rise (n + 1) limit ns → among c (n ∷ ns) ≡ true → n ≤ c
    least n c limit ns h m = (rise_within n limit c (n ∷ ns) (omega arith, h.0, h.1) (occurs_among c (n ∷ ns) m)).0

    others : (c : ℕ) → x ≡ y → (b : Bool) → eqb c x ≡ b → among c xs ≡ among c ys
    others c e true q =
        let i = eqb-true c x q in
        first_once c (x + 1) limit xs (omega arith) h.2 ∙ sym (first_once c (y + 1) limit ys (omega arith) k.2)
    others c e false q =
        let d : c ≢ x = λ i. true≢false (sym (eq-eqb c x i) ∙ q) in
        let f : c ≢ y = λ i. d (i ∙ sym e) in
        sym (behind_first c x xs d) ∙ (s c ∙ behind_first c y ys f)

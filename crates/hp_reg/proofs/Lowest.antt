-- The lowest processor that is left, found by looking at the numbers in turn.
use Rattle.std.proofs.Common.{◌≡◌, ℕ, zero, suc, ◌<◌, ◌≤◌, Bool, true, false, ◌&&◌, leb, ltb, min, Option, Some, None, IfSome, IfNone, List, [], ◌∷◌, ◌++◌, filter, length, get_or, refl, ap, ◌∙◌, arith}
use Rattle.std.proofs.lemmas.Bool.{le-leb, leb-true, lt-ltb, ltb-true, ltb-false}
use Rattle.std.specs.Prelude.{All, AllPairs}
use Rattle.std.proofs.lemmas.List.Elements.{filter-append, All-append}
use Rattle.std.proofs.lemmas.List.Kept.{AllPairs-filter}
use Rattle.std.proofs.lemmas.List.Quantifiers.{all_pairs_push}
use Rattle.hp_model.specs.Lists.{numbers}
use Rattle.hp_model.proofs.ListLemmas.{filter_both}
pub use Rattle.hp_event.proofs.Among.{among_any as any_among}
use Rattle.hp_reg.specs.declared.phase.Phase.{Phase}
use Rattle.hp_reg.specs.declared.phase.Phase.TheVariants.{Making, Undoing}
use Rattle.hp_reg.specs.Concerned.{is_concerned, concerned, IsFirstLeft}
use Rattle.hp_reg.specs.Progress.{from_on, below, cpus_left}

none_pass : (q : ℕ → Bool) (n : ℕ) → ((d : ℕ) → d < n → q d ≡ false) → filter q (numbers n) ≡ []
none_pass q zero h = refl
none_pass q (suc n) h =
    rw (filter-append q (numbers n) (n ∷ []), none_pass q n (λ d b. h d (omega arith)), h n (omega arith)) refl

first_passes : (q : ℕ → Bool) (n c : ℕ) → c < n → q c ≡ true → ((d : ℕ) → d < c → q d ≡ false) →
    (others : List ℕ) × (filter q (numbers n) ≡ c ∷ others)
first_passes q zero c b h none = absurd (omega arith)
first_passes q (suc n) c b h none = go (ltb c n) refl (first_passes q n c)
  where
    go : (t : Bool) → ltb c n ≡ t →
        (c < n → q c ≡ true → ((d : ℕ) → d < c → q d ≡ false) → (others : List ℕ) × (filter q (numbers n) ≡ c ∷ others)) →
        (others : List ℕ) × (filter q (numbers (suc n)) ≡ c ∷ others)
    go true e more =
        let r = more (ltb-true c n e) h none in
        (r.0 ++ filter q (n ∷ []), rw (filter-append q (numbers n) (n ∷ []), r.1) refl)
    go false e more =
        let le : n ≤ c = ltb-false c n e in
        let same : n ≡ c = omega arith in
        let empty : filter q (numbers n) ≡ [] = none_pass q n (λ d k. none d (omega arith)) in
        let here : q n ≡ true = ap q same ∙ h in
        ([], rw (filter-append q (numbers n) (n ∷ []), empty, here, same) refl)

no_and : (a b : Bool) → (a ≡ true → b ≡ false) → (a && b) ≡ false
no_and true b h = h refl
no_and false b h = refl

-- of the numbers that pass a test, those from a number on
pub making_none : (p : ℕ → Bool) (n from : ℕ) → ((d : ℕ) → from ≤ d → d < n → p d ≡ false) → from_on from (filter p (numbers n)) ≡ []
making_none p n from none =
    filter_both (λ d. leb from d) p (numbers n)
    ∙ none_pass (λ d. leb from d && p d) n (λ d b. no_and (leb from d) (p d) (λ l. none d (leb-true from d l) b))

pub making_some : (p : ℕ → Bool) (n from c : ℕ) → from ≤ c → c < n → p c ≡ true →
    ((d : ℕ) → from ≤ d → d < c → p d ≡ false) → (others : List ℕ) × (from_on from (filter p (numbers n)) ≡ c ∷ others)
making_some p n from c l b h none =
    let r = first_passes (λ d. leb from d && p d) n c b (rw (le-leb from c l) h)
    (λ d k. no_and (leb from d) (p d) (λ g. none d (leb-true from d g) k)) in
    (r.0, filter_both (λ d. leb from d) p (numbers n) ∙ r.1)

-- those from a number on and below another
both : (p : ℕ → Bool) (n from failed : ℕ) →
    from_on from (below failed (filter p (numbers n))) ≡ filter (λ d. leb from d && (ltb d failed && p d)) (numbers n)
both p n from failed =
    ap (λ xs. from_on from xs) (filter_both (λ d. ltb d failed) p (numbers n))
    ∙ filter_both (λ d. leb from d) (λ d. ltb d failed && p d) (numbers n)

pub undoing_none : (p : ℕ → Bool) (n from failed : ℕ) → ((d : ℕ) → from ≤ d → d < min failed n → p d ≡ false) →
    from_on from (below failed (filter p (numbers n))) ≡ []
undoing_none p n from failed none =
    both p n from failed
    ∙ none_pass (λ d. leb from d && (ltb d failed && p d)) n
    (λ d b. no_and (leb from d) (ltb d failed && p d)
    (λ l. no_and (ltb d failed) (p d) (λ t. let lt : d < failed = ltb-true d failed t in none d (leb-true from d l) (omega arith))))

pub undoing_some : (p : ℕ → Bool) (n from failed c : ℕ) → from ≤ c → c < min failed n → p c ≡ true →
    ((d : ℕ) → from ≤ d → d < c → p d ≡ false) → (others : List ℕ) × (from_on from (below failed (filter p (numbers n))) ≡ c ∷ others)
undoing_some p n from failed c l b h none =
    let lt : c < failed = omega arith in
    let r = first_passes (λ d. leb from d && (ltb d failed && p d)) n c (omega arith) (rw (le-leb from c l, lt-ltb c failed lt) h)
    (λ d k. no_and (leb from d) (ltb d failed && p d)
    (λ g. no_and (ltb d failed) (p d) (λ i. none d (leb-true from d g) k))) in
    (r.0, both p n from failed ∙ r.1)

-- the numbers that pass a test are in rising number
numbers_below : (n : ℕ) → All (λ c. c < n) (numbers n)
numbers_below zero = λ k d b. absurd (omega arith)
numbers_below (suc n) =
    All-append (λ c. c < suc n) (numbers n) (n ∷ []) (λ k d b. let h : get_or (numbers n) k d < n = numbers_below n k d b in omega arith) last
  where
    last : (k d : ℕ) → k < length (n ∷ []) → get_or (n ∷ []) k d < suc n
    last zero d b = omega arith
    last (suc k) d b = absurd (omega arith)

numbers_rise : (n : ℕ) → AllPairs (λ c d. c < d) (numbers n)
numbers_rise zero = λ i j d a b. absurd (omega arith)
numbers_rise (suc n) = all_pairs_push (λ c d. c < d) (numbers n) n (numbers_rise n) (λ k d b. numbers_below n k d b)

pub filter_rises : (p : ℕ → Bool) (n : ℕ) → AllPairs (λ c d. c < d) (filter p (numbers n))
filter_rises p n = AllPairs-filter (λ c d. c < d) p (numbers n) (numbers_rise n)

-- what the search says of the processors that are left
pub none_left : (ph : Phase) (from s : ℕ) (settled absent : List ℕ) (found : Option ℕ) → ph ≡ Making from →
    IfNone found ((d : ℕ) → from ≤ d → d < length settled → is_concerned s settled absent d ≡ false) →
    IfNone found (cpus_left ph (concerned s settled absent) ≡ [])
none_left ph from s settled absent None e h =
    rw e (making_none (is_concerned s settled absent) (length settled) from h)
none_left ph from s settled absent (Some c) e h = tt

-- found, and the lowest
abbrev pub IsFirst : (from to s : ℕ) → (settled absent : List ℕ) → ℕ → Type 0
IsFirst from to s settled absent c = (from ≤ c) × (c < to) × (is_concerned s settled absent c ≡ true)

pub lowest_left : (ph : Phase) (from s : ℕ) (settled absent : List ℕ) (found : Option ℕ) → ph ≡ Making from →
    IfSome found (IsFirst from (length settled) s settled absent) →
    IfSome found (λ c. (d : ℕ) → from ≤ d → d < c → is_concerned s settled absent d ≡ false) →
    IfSome found (IsFirstLeft ph s settled absent)
lowest_left ph from s settled absent None e h k = tt
lowest_left ph from s settled absent (Some c) e h k =
    (h.1, h.2, rw e (making_some (is_concerned s settled absent) (length settled) from c h.0 h.1 h.2 k))

pub none_undone : (ph : Phase) (from failed code to s : ℕ) (settled absent : List ℕ) (found : Option ℕ) → ph ≡ Undoing from failed code →
    to ≡ min failed (length settled) →
    IfNone found ((d : ℕ) → from ≤ d → d < to → is_concerned s settled absent d ≡ false) →
    IfNone found (cpus_left ph (concerned s settled absent) ≡ [])
none_undone ph from failed code to s settled absent None e t h =
    rw e (undoing_none (is_concerned s settled absent) (length settled) from failed (rw t at h))
none_undone ph from failed code to s settled absent (Some c) e t h = tt

pub lowest_undone : (ph : Phase) (from failed code to s : ℕ) (settled absent : List ℕ) (found : Option ℕ) →
    ph ≡ Undoing from failed code → to ≡ min failed (length settled) →
    IfSome found (IsFirst from to s settled absent) →
    IfSome found (λ c. (d : ℕ) → from ≤ d → d < c → is_concerned s settled absent d ≡ false) →
    IfSome found (IsFirstLeft ph s settled absent)
lowest_undone ph from failed code to s settled absent None e t h k = tt
lowest_undone ph from failed code to s settled absent (Some c) e t h k =
    let within : c < min failed (length settled) = rw t at h.1 in (
      omega arith,
      h.2,
      rw e (undoing_some (is_concerned s settled absent) (length settled) from failed c h.0 within h.2 k),
    )

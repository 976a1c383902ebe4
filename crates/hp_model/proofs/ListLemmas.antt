-- How often a number is in the lists of numbers that the definitions make.
use Rattle.std.proofs.Common.{◌≡◌, ℕ, zero, suc, ◌+◌, ◌<◌, Bool, true, false, cond, not, ◌&&◌, eqb, ltb, leb, List, [], ◌∷◌, ◌++◌, refl, ap, sym, ◌∙◌, arith}
use Rattle.std.specs.List.{filter}
use Rattle.std.proofs.lemmas.Bool.Decides.{nat_tests}
use Rattle.std.proofs.lemmas.Bool.{and_parts, lt-leb, true≢false, false≢true, eqb-true, eq-eqb}
use Rattle.std.proofs.lemmas.List.Elements.{filter-append}
use Rattle.hp_event.specs.declared.head.Head.{Head}
use Rattle.hp_event.specs.declared.event.Event.{Event}
use Rattle.hp_model.specs.Lists.{is_empty, occurs, among, without, numbers}
use Rattle.hp_model.specs.Settled.{settled}
use Rattle.hp_model.specs.Processors.{is_present, processors}
use Rattle.hp_model.proofs.Counts.{cond_same, occurs-append}

-- on how many of the processors of a registration one is
pub occurs-numbers : (c n : ℕ) → occurs c (numbers n) ≡ cond (ltb c n) 1 0
occurs-numbers c zero = grind (arith, nat_tests)
occurs-numbers c (suc n) =
    rw (occurs-append c (numbers n) (n ∷ []), occurs-numbers c n) (one_more c n)
  where
    one_more : (c n : ℕ) → cond (ltb c n) 1 0 + (cond (eqb n c) 1 0 + 0) ≡ cond (ltb c (suc n)) 1 0
    one_more c n = grind (arith, nat_tests)

pub kept_step : (e q : Bool) (n : ℕ) → (e ≡ true → q ≡ true) → cond e 1 0 + cond q n 0 ≡ cond q (cond e 1 0 + n) 0
kept_step true true n h = refl
kept_step true false n h = absurd (false≢true (h refl))
kept_step false true n h = refl
kept_step false false n h = refl

pub left_step : (e q : Bool) (n : ℕ) → (e ≡ true → q ≡ false) → cond q n 0 ≡ cond q (cond e 1 0 + n) 0
left_step true true n h = absurd (true≢false (h refl))
left_step true false n h = refl
left_step false true n h = omega arith
left_step false false n h = refl

pub occurs-filter : (p : ℕ → Bool) (c : ℕ) (xs : List ℕ) → occurs c (filter p xs) ≡ cond (p c) (occurs c xs) 0
occurs-filter p c [] = sym (cond_same (p c) 0)
occurs-filter p c (x ∷ xs) = go (p x) refl (occurs-filter p c xs)
  where
    go : (q : Bool) → p x ≡ q → occurs c (filter p xs) ≡ cond (p c) (occurs c xs) 0 →
        occurs c (cond q (x ∷ filter p xs) (filter p xs)) ≡ cond (p c) (cond (eqb x c) 1 0 + occurs c xs) 0
    go true e ih = rw ih (kept_step (eqb x c) (p c) (occurs c xs) (λ f. ap p (sym (eqb-true x c f)) ∙ e))
    go false e ih = ih ∙ left_step (eqb x c) (p c) (occurs c xs) (λ f. ap p (sym (eqb-true x c f)) ∙ e)

-- A processor that is away stands at 0, so a registration touches exactly those at its state or above it.
pub occurs-processors : (head : Head) (c s : ℕ) (events : List Event) → 0 < s →
    (is_present head c ≡ false → settled c events ≡ 0) →
    occurs c (processors head s events) ≡ cond (leb s (settled c events)) 1 0
occurs-processors head c s events pos away =
    occurs-filter (λ x. is_present head x && leb s (settled x events)) c (numbers head.possible)
    ∙ rw (occurs-numbers c head.possible) (go (is_present head c) refl)
  where
    go : (b : Bool) → is_present head c ≡ b →
        ◌≡◌ {A = ℕ} (cond (b && leb s (settled c events)) (cond (ltb c head.possible) 1 0) 0)
        (cond (leb s (settled c events)) 1 0)
    go true e =
        let f : ltb c head.possible ≡ true =
        (and_parts (ltb c head.possible) (not (ltb 0 (occurs c head.absent))) e).0
        in
        rw f refl
    go false e = rw (away e, lt-leb s 0 pos) refl

-- what the end of a registration does to the keys of its state
pub not_cond : (b : Bool) (n : ℕ) → cond (not b) n 0 ≡ cond b 0 n
not_cond true n = refl
not_cond false n = refl

pub occurs-without : (i j : ℕ) (xs : List ℕ) → occurs j (without i xs) ≡ cond (eqb j i) 0 (occurs j xs)
occurs-without i j xs = occurs-filter (λ x. not (eqb x i)) j xs ∙ not_cond (eqb j i) (occurs j xs)

-- a number that a filter leaves, and one that it takes out of a list that becomes empty
pub in_filter : (p : ℕ → Bool) (c : ℕ) (xs : List ℕ) → 0 < occurs c (filter p xs) → (p c ≡ true) × (0 < occurs c xs)
in_filter p c xs h = go (p c) (rw (occurs-filter p c xs) at h)
  where
    go : (b : Bool) → 0 < cond b (occurs c xs) 0 → (b ≡ true) × (0 < occurs c xs)
    go true h = (refl, h)
    go false h = absurd (omega arith)

pub into_filter : (p : ℕ → Bool) (c : ℕ) (xs : List ℕ) → p c ≡ true → 0 < occurs c xs → 0 < occurs c (filter p xs)
into_filter p c xs h k = rw (occurs-filter p c xs, h) k

pub filtered_out : (p : ℕ → Bool) (c : ℕ) (xs : List ℕ) → not (is_empty (filter p xs)) ≡ false → 0 < occurs c xs → p c ≡ false
filtered_out p c xs h k = go (p c) refl
  where
    none : (ys : List ℕ) → not (is_empty ys) ≡ false → occurs c ys ≡ 0
    none [] e = refl
    none (y ∷ ys) e = absurd (true≢false e)

    go : (b : Bool) → p c ≡ b → b ≡ false
    go true e = let i = into_filter p c xs e k in let n = none (filter p xs) h in absurd (omega arith)
    go false e = refl

-- that a number is among some, and that it occurs
pub is_among : (c : ℕ) (xs : List ℕ) → 0 < occurs c xs → among c xs ≡ true
is_among c xs h = grind (arith, nat_tests)

pub occurs_among : (c : ℕ) (xs : List ℕ) → among c xs ≡ true → 0 < occurs c xs
occurs_among c xs h = grind (arith, nat_tests)

pub once_in : (c : ℕ) (xs : List ℕ) → 0 < occurs c (c ∷ xs)
once_in c xs = let h : eqb c c ≡ true = eq-eqb c c refl in rw h (omega arith)

-- a number is still among more
pub among_more : (c : ℕ) (xs ys : List ℕ) → among c xs ≡ true → among c (xs ++ ys) ≡ true
among_more c xs ys h =
    let o = occurs_among c xs h in let a = occurs-append c xs ys in is_among c (xs ++ ys) (omega arith)

pub among_last : (c : ℕ) (xs : List ℕ) → among c (xs ++ c ∷ []) ≡ true
among_last c xs =
    let o = once_in c [] in let a = occurs-append c xs (c ∷ []) in is_among c (xs ++ c ∷ []) (omega arith)

-- a list that nothing is among
pub none_among : (xs : List ℕ) → ((c : ℕ) → among c xs ≡ false) → xs ≡ []
none_among [] h = refl
none_among (x ∷ xs) h = absurd (true≢false (sym (is_among x (x ∷ xs) (once_in x xs)) ∙ h x))

-- a filter of a filter
pub filter_both : (p q : ℕ → Bool) (xs : List ℕ) → filter p (filter q xs) ≡ filter (λ x. p x && q x) xs
filter_both p q [] = refl
filter_both p q (x ∷ xs) = go (p x) (q x) refl refl (filter_both p q xs)
  where
    go : (a b : Bool) → p x ≡ a → q x ≡ b → filter p (filter q xs) ≡ filter (λ x. p x && q x) xs →
        filter p (cond b (x ∷ filter q xs) (filter q xs))
        ≡ cond (a && b) (x ∷ filter (λ x. p x && q x) xs) (filter (λ x. p x && q x) xs)
    go true true e f h = rw (e, h) refl
    go true false e f h = h
    go false true e f h = rw e h
    go false false e f h = h

-- the numbers from one on, from its end and from its front
unfoldable pub from : (a n : ℕ) → List ℕ
from a zero = []
from a (suc n) = a ∷ from (suc a) n

pub from_more : (a n : ℕ) → from a (suc n) ≡ from a n ++ (a + n) ∷ []
unfolding from
from_more a zero = let e : a ≡ a + 0 = omega arith in ap (λ (k : ℕ). k ∷ []) e
from_more a (suc n) =
    let e : suc a + n ≡ a + suc n = omega arith in
    ap (λ xs. a ∷ xs) (from_more (suc a) n ∙ ap (λ (k : ℕ). from (suc a) n ++ k ∷ []) e)

pub numbers_from : (n : ℕ) → numbers n ≡ from 0 n
unfolding from
numbers_from zero = refl
numbers_from (suc n) =
    let e : 0 + n ≡ n = omega arith in
    ap (λ xs. xs ++ n ∷ []) (numbers_from n) ∙ sym (from_more 0 n ∙ ap (λ (k : ℕ). from 0 n ++ k ∷ []) e)

-- tests that agree on the numbers below one pass the same ones
pub filter_agree : (p q : ℕ → Bool) (n : ℕ) → ((c : ℕ) → c < n → p c ≡ q c) → filter p (numbers n) ≡ filter q (numbers n)
filter_agree p q zero h = refl
filter_agree p q (suc n) h =
    rw (filter-append p (numbers n) (n ∷ []), filter-append q (numbers n) (n ∷ []), h n (omega arith), filter_agree p q n (λ c b. h c (omega arith)))
    refl

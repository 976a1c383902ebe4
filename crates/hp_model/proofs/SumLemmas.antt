-- Sums over lists of numbers where one summand changes, and the length of a list without a number.
use Rattle.std.proofs.Common.{◌≡◌, ℕ, zero, suc, ◌+◌, ◌<◌, ◌≤◌, Bool, true, false, cond, not, eqb, ltb, List, [], ◌∷◌, length, sum_by, refl, ap, ◌∙◌, arith, length-append}
use Rattle.std.specs.List.{filter}
use Rattle.std.proofs.lemmas.List.Sums.{sum_by-cons}
use Rattle.std.proofs.lemmas.Bool.{eqb-true}
use Rattle.std.proofs.lemmas.Bool.Decides.{nat_tests}
use Rattle.hp_states.proofs.Basics.{unequal_turned}
use Rattle.hp_model.specs.Lists.{occurs, among, without, numbers}
use Rattle.hp_model.proofs.ListLemmas.{occurs-filter, once_in}

pub sum_none : (f : ℕ → ℕ) (xs : List ℕ) → ((c : ℕ) → f c ≡ 0) → sum_by f xs ≡ 0
sum_none f [] h = refl
sum_none f (x ∷ xs) h =
    let a = sum_by-cons f x xs in
    let r = sum_none f xs h in
    let e = h x in
    omega arith

pub sum_same : (f g : ℕ → ℕ) (xs : List ℕ) → ((c : ℕ) → f c ≡ g c) → sum_by f xs ≡ sum_by g xs
sum_same f g [] h = refl
sum_same f g (x ∷ xs) h =
    let a = sum_by-cons f x xs in
    let b = sum_by-cons g x xs in
    let r = sum_same f g xs h in
    let e = h x in
    omega arith

-- none of the summands that changed is there
sum_without : (c : ℕ) (f g : ℕ → ℕ) (xs : List ℕ) → occurs c xs ≡ 0 → ((o : ℕ) → eqb c o ≡ false → f o ≡ g o) →
    sum_by f xs ≡ sum_by g xs
sum_without c f g [] none h = refl
sum_without c f g (x ∷ xs) none h = go (eqb x c) refl none (λ n. sum_without c f g xs n h)
  where
    go : (b : Bool) → eqb x c ≡ b → cond b 1 0 + occurs c xs ≡ 0 → (occurs c xs ≡ 0 → sum_by f xs ≡ sum_by g xs) →
        sum_by f (x ∷ xs) ≡ sum_by g (x ∷ xs)
    go true e n rest = absurd (omega arith)
    go false e n rest =
        let a = sum_by-cons f x xs in
        let b = sum_by-cons g x xs in
        let r = rest (omega arith) in
        let s = h x (unequal_turned x c e) in
        omega arith

-- one summand changes
pub sum_changed : (c : ℕ) (f g : ℕ → ℕ) (xs : List ℕ) → occurs c xs ≡ 1 → ((o : ℕ) → eqb c o ≡ false → f o ≡ g o) →
    sum_by f xs + g c ≡ sum_by g xs + f c
sum_changed c f g [] one h = absurd (omega arith)
sum_changed c f g (x ∷ xs) one h = go (eqb x c) refl one (λ n. sum_changed c f g xs n h)
  where
    go : (b : Bool) → eqb x c ≡ b → cond b 1 0 + occurs c xs ≡ 1 →
        (occurs c xs ≡ 1 → sum_by f xs + g c ≡ sum_by g xs + f c) → sum_by f (x ∷ xs) + g c ≡ sum_by g (x ∷ xs) + f c
    go true e n rest =
        let a = sum_by-cons f x xs in
        let b = sum_by-cons g x xs in
        let r = sum_without c f g xs (omega arith) h in
        let same = eqb-true x c e in
        let u = ap f same in
        let v = ap g same in
        omega arith
    go false e n rest =
        let a = sum_by-cons f x xs in
        let b = sum_by-cons g x xs in
        let r = rest (omega arith) in
        let s = h x (unequal_turned x c e) in
        omega arith

pub length-without : (i : ℕ) (xs : List ℕ) → length (without i xs) + occurs i xs ≡ length xs
length-without i [] = refl
length-without i (x ∷ xs) = go (eqb x i) (length-without i xs)
  where
    go : (b : Bool) → length (without i xs) + occurs i xs ≡ length xs →
        length (cond (not b) (x ∷ without i xs) (without i xs)) + (cond b 1 0 + occurs i xs) ≡ length (x ∷ xs)
    go true h = omega arith
    go false h = omega arith

pub length-filter_le : (p : ℕ → Bool) (xs : List ℕ) → length (filter p xs) ≤ length xs
length-filter_le p [] = omega arith
length-filter_le p (x ∷ xs) = go (p x) (length-filter_le p xs)
  where
    go : (b : Bool) → length (filter p xs) ≤ length xs → length (cond b (x ∷ filter p xs) (filter p xs)) ≤ length (x ∷ xs)
    go true h = omega arith
    go false h = omega arith

pub length-numbers : (n : ℕ) → length (numbers n) ≡ n
length-numbers zero = refl
length-numbers (suc n) = let h = length-numbers n in let l = length-append (numbers n) (n ∷ []) in omega arith

-- the same summands where they are there
pub sum_same_in : (f g : ℕ → ℕ) (xs : List ℕ) → ((c : ℕ) → 0 < occurs c xs → f c ≡ g c) → sum_by f xs ≡ sum_by g xs
sum_same_in f g [] h = refl
sum_same_in f g (x ∷ xs) h =
    let a = sum_by-cons f x xs in
    let b = sum_by-cons g x xs in
    let r = sum_same_in f g xs (λ c k. h c (further c (eqb x c) k)) in
    let e = h x (once_in x xs) in
    omega arith
  where
    further : (c : ℕ) (b : Bool) → 0 < occurs c xs → 0 < cond b 1 0 + occurs c xs
    further c b k = omega arith

-- a sum over those that a test leaves
pub sum_filter : (f : ℕ → ℕ) (p : ℕ → Bool) (xs : List ℕ) → sum_by f (filter p xs) ≡ sum_by (λ c. cond (p c) (f c) 0) xs
sum_filter f p [] = refl
sum_filter f p (x ∷ xs) = go (p x) refl (sum_filter f p xs)
  where
    go : (b : Bool) → p x ≡ b → sum_by f (filter p xs) ≡ sum_by (λ c. cond (p c) (f c) 0) xs →
        sum_by f (cond b (x ∷ filter p xs) (filter p xs)) ≡ sum_by (λ c. cond (p c) (f c) 0) (x ∷ xs)
    go true e r =
        let a = sum_by-cons f x (filter p xs) in
        let b = sum_by-cons (λ c. cond (p c) (f c) 0) x xs in
        let m : ◌≡◌ {A = ℕ} (cond (p x) (f x) 0) (f x) = rw e refl in
        omega arith
    go false e r =
        let b = sum_by-cons (λ c. cond (p c) (f c) 0) x xs in
        let m : ◌≡◌ {A = ℕ} (cond (p x) (f x) 0) 0 = rw e refl in
        omega arith

-- and over those that two tests leave, by being among them
pub sum_among : (f : ℕ → ℕ) (p q : ℕ → Bool) (xs : List ℕ) →
    sum_by f (filter p (filter q xs)) ≡ sum_by (λ c. cond (among c (filter p (filter q xs))) (f c) 0) xs
sum_among f p q xs =
    sum_filter f p (filter q xs)
    ∙ (sum_filter (λ c. cond (p c) (f c) 0) q xs
    ∙ sum_same_in (λ c. cond (q c) (cond (p c) (f c) 0) 0) (λ c. cond (among c (filter p (filter q xs))) (f c) 0) xs
    (λ c k. rw (occurs-filter p c (filter q xs), occurs-filter q c xs) (go (p c) (q c) (f c) (occurs c xs) k)))
  where
    go : (a b : Bool) (m n : ℕ) → 0 < n → cond b (cond a m 0) 0 ≡ cond (ltb 0 (cond a (cond b n 0) 0)) m 0
    go a b m n k = grind (arith, nat_tests)

-- Lists in which no number comes twice, and what a test leaves of them.
use Rattle.std.proofs.Common.{◌≡◌, ℕ, ◌<◌, ◌≤◌, Bool, true, false, cond, not, ◌&&◌, ltb, List, [], ◌∷◌, ◌++◌, refl, ap, sym, ◌∙◌, subst, arith}
use Rattle.std.specs.Prelude.{filter}
use Rattle.std.specs.List.{AllZip}
use Rattle.std.proofs.lemmas.List.{append-nil}
use Rattle.std.proofs.lemmas.List.Elements.{filter-append, filter_agree}
use Rattle.std.proofs.lemmas.Bool.{ltb-true}
use Rattle.hp_model.specs.Lists.{occurs, among, numbers}
use Rattle.hp_model.proofs.Counts.{occurs-append}
use Rattle.hp_model.proofs.ListLemmas.{occurs-filter, occurs-numbers, filter_both, is_among}
use Rattle.hp_model.proofs.Operations.{once_in, in_filter}

abbrev pub Once : List ℕ → Type 0
Once xs = (c : ℕ) → occurs c xs ≤ 1

pub once_filter : (p : ℕ → Bool) (xs : List ℕ) → Once xs → Once (filter p xs)
once_filter p xs h c = rw (occurs-filter p c xs) (go (p c) (h c))
  where
    go : (b : Bool) → occurs c xs ≤ 1 → cond b (occurs c xs) 0 ≤ 1
    go true l = l
    go false l = omega arith

pub once_numbers : (n : ℕ) → Once (numbers n)
once_numbers n c = rw (occurs-numbers c n) (go (ltb c n))
  where
    go : (b : Bool) → cond b 1 0 ≤ 1
    go true = omega arith
    go false = omega arith

-- a number of the first part isn't one of the second
pub apart : (xs ys : List ℕ) (c : ℕ) → Once (xs ++ ys) → 0 < occurs c ys → occurs c xs ≡ 0
apart xs ys c h k = let l = rw (occurs-append c xs ys) at (h c) in omega arith

-- two tests that agree on the numbers of a list
pub agree_in : (p q : ℕ → Bool) (xs : List ℕ) → ((c : ℕ) → 0 < occurs c xs → p c ≡ q c) → filter p xs ≡ filter q xs
agree_in p q [] h = refl
agree_in p q (x ∷ xs) h =
    rw (h x (once_in x xs), agree_in p q xs (λ c k. h c (omega arith))) refl

pub all_pass : (p : ℕ → Bool) (xs : List ℕ) → ((c : ℕ) → 0 < occurs c xs → p c ≡ true) → filter p xs ≡ xs
all_pass p [] h = refl
all_pass p (x ∷ xs) h = rw (h x (once_in x xs), all_pass p xs (λ c k. h c (omega arith))) refl

pub none_pass : (p : ℕ → Bool) (xs : List ℕ) → ((c : ℕ) → 0 < occurs c xs → p c ≡ false) → filter p xs ≡ []
none_pass p [] h = refl
none_pass p (x ∷ xs) h = rw (h x (once_in x xs)) (none_pass p xs (λ c k. h c (omega arith)))

pub not_among : (c : ℕ) (xs : List ℕ) → occurs c xs ≡ 0 → among c xs ≡ false
not_among c xs h = ap (ltb 0) h

-- without the first part, the second is left
pub left_over : (xs ys : List ℕ) → Once (xs ++ ys) → filter (λ c. not (among c xs)) (xs ++ ys) ≡ ys
left_over xs ys h =
    filter-append (λ c. not (among c xs)) xs ys
    ∙ (rw (
      none_pass (λ c. not (among c xs)) xs (λ c k. ap not (is_among c xs k)),
      all_pass (λ c. not (among c xs)) ys (λ c k. ap not (not_among c xs (apart xs ys c h k))),
    )
    refl)

-- of those that pass a test in rising number, the first ones are in rising number too
pub listed_front : (p : ℕ → Bool) (n : ℕ) (xs ys : List ℕ) → filter p (numbers n) ≡ xs ++ ys →
    xs ≡ filter (λ c. among c xs) (numbers n)
listed_front p n xs ys e =
    sym (filter-append (λ c. among c xs) xs ys
    ∙ (rw (
      all_pass (λ c. among c xs) xs (λ c k. is_among c xs k),
      none_pass (λ c. among c xs) ys (λ c k. not_among c xs (apart xs ys c once k)),
    )
    (append-nil xs)))
    ∙ (ap (filter (λ c. among c xs)) (sym e)
    ∙ (filter_both (λ c. among c xs) p (numbers n) ∙ filter_agree (λ c. among c xs && p c) (λ c. among c xs) both (numbers n)))
  where
    once : Once (xs ++ ys)
    once = subst Once e (once_filter p (numbers n) (once_numbers n))

    passes : (c : ℕ) → 0 < occurs c xs → p c ≡ true
    passes c k =
        let l : 0 < occurs c (filter p (numbers n)) = rw (e, occurs-append c xs ys) (omega arith) in (in_filter p c (numbers n) l).0

    both : (c : ℕ) → (among c xs && p c) ≡ among c xs
    both c = go (among c xs) refl
      where
        go : (b : Bool) → among c xs ≡ b → (b && p c) ≡ b
        go true f = passes c (ltb-true 0 (occurs c xs) f)
        go false f = refl

pub listed_none : (n : ℕ) → [] ≡ filter (λ c. among c []) (numbers n)
listed_none n = sym (none_pass (λ c. among c []) (numbers n) (λ c k. refl))

-- pairs of two lists
pub zip_push : {X Y : Type 0} (P : X → Y → Type 0) (xs : List X) (ys : List Y) (x : X) (y : Y) → AllZip P xs ys → P x y →
    AllZip P (xs ++ x ∷ []) (ys ++ y ∷ [])
zip_push P [] [] x y h k = (k, tt)
zip_push P [] (b ∷ ys) x y h k = absurd h
zip_push P (a ∷ xs) [] x y h k = absurd h
zip_push P (a ∷ xs) (b ∷ ys) x y h k = (h.0, zip_push P xs ys x y h.1 k)

pub zip_in : {Y : Type 0} (P Q : ℕ → Y → Type 0) (xs : List ℕ) (ys : List Y) →
    ((c : ℕ) (y : Y) → 0 < occurs c xs → P c y → Q c y) → AllZip P xs ys → AllZip Q xs ys
zip_in P Q [] [] f h = tt
zip_in P Q [] (b ∷ ys) f h = absurd h
zip_in P Q (a ∷ xs) [] f h = absurd h
zip_in P Q (a ∷ xs) (b ∷ ys) f h = (f a b (once_in a xs) h.0, zip_in P Q xs ys (λ c y k. f c y (omega arith)) h.1)

-- Numbers that pass a test, in rising number, found by looking at each in turn.
use Rattle.std.proofs.Common.{◌≡◌, ℕ, zero, suc, ◌+◌, ◌<◌, ◌≤◌, Bool, true, false, cond, ◌&&◌, ltb, Some, None, List, [], ◌∷◌, ◌++◌, length, get_or, refl, ap, sym, ◌∙◌, arith, add-one}
use Rattle.std.specs.Prelude.{filter, slice_get}
use Rattle.std.proofs.lemmas.List.{length-append}
use Rattle.std.proofs.lemmas.List.Elements.{filter-append}
use Rattle.std.proofs.lemmas.Option.{slice_get_past, get_or_from_slice_get}
use Rattle.std.proofs.lemmas.Bool.{ltb-true, ltb-false}
use Rattle.std.proofs.lemmas.List.Filters.{length-filter_more}
use Rattle.std.proofs.Math.ListN.{take}
use Rattle.std.proofs.Math.Seq.{take-length}
use Rattle.hp_event.specs.declared.head.Head.{Head}
use Rattle.hp_model.specs.Lists.{among, numbers}
use Rattle.hp_model.specs.Sequence.{first_of}
use Rattle.hp_model.proofs.ListLemmas.{occurs-filter, occurs-numbers, filter_agree}
use Rattle.hp_suspend.specs.Tables.{AreAll}

-- how many numbers below one pass a test
abbrev pub passing : (ℕ → Bool) → ℕ → ℕ
passing p n = length (filter p (numbers n))

pub passing-one : (p : ℕ → Bool) (n : ℕ) → passing p (n + 1) ≡ passing p n + cond (p n) 1 0
passing-one p n =
    ap (passing p) (add-one n)
    ∙ ap length (filter-append p (numbers n) (n ∷ []))
    ∙ length-append (filter p (numbers n)) (filter p (n ∷ []))
    ∙ ap (λ k. passing p n + k) (one (p n))
  where
    one : (b : Bool) → length (cond b (n ∷ []) []) ≡ cond b 1 0
    one true = refl
    one false = refl

slice_get-left : (xs ys : List ℕ) (k x : ℕ) → slice_get xs k ≡ Some x → slice_get (xs ++ ys) k ≡ Some x
slice_get-left [] ys k x h = absurd (none_some h)
  where
    none_some : None ≡ Some x → ⊥
    none_some e = cc
slice_get-left (y ∷ xs) ys zero x h = h
slice_get-left (y ∷ xs) ys (suc k) x h = slice_get-left xs ys k x h

pub slice_get-seam : (xs ys : List ℕ) → slice_get (xs ++ ys) (length xs) ≡ slice_get ys 0
slice_get-seam [] ys = refl
slice_get-seam (x ∷ xs) ys = slice_get-seam xs ys

-- the number that passes and has so many passing ones below it
pub place_at : (p : ℕ → Bool) (n c : ℕ) → c < n → p c ≡ true → slice_get (filter p (numbers n)) (passing p c) ≡ Some c
place_at p zero c b h = absurd (omega arith)
place_at p (suc n) c b h = rw (filter-append p (numbers n) (n ∷ [])) (go (ltb c n) refl (place_at p n c))
  where
    go : (t : Bool) → ltb c n ≡ t →
        (c < n → p c ≡ true → slice_get (filter p (numbers n)) (passing p c) ≡ Some c) →
        slice_get (filter p (numbers n) ++ filter p (n ∷ [])) (passing p c) ≡ Some c
    go true e more = slice_get-left (filter p (numbers n)) (filter p (n ∷ [])) (passing p c) c (more (ltb-true c n e) h)
    go false e more =
        let le : n ≤ c = ltb-false c n e in
        let same : c ≡ n = omega arith in
        let here : p n ≡ true = ap p (sym same) ∙ h in
        rw (same, here) (slice_get-seam (filter p (numbers n)) (n ∷ []))

-- none has that many below it
pub place_past : (p : ℕ → Bool) (n k : ℕ) → passing p n ≤ k → slice_get (filter p (numbers n)) k ≡ None
place_past p n k h = slice_get_past (filter p (numbers n)) k h

-- what stands in the place of a processor
pub said_at : {X : Type 0} (head : Head) (said : ℕ → X) (places : List X) (c : ℕ) (d : X) → AreAll head said places →
    c < head.possible → get_or places c d ≡ said c
said_at head said places c d h b = get_or_from_slice_get places c (said c) d (h.each c b)

-- a test of what stands in the places
pub tested_places : {X : Type 0} (head : Head) (said : ℕ → X) (places : List X) (d : X) (test : ℕ → X → Bool) → AreAll head said places →
    filter (λ c. test c (get_or places c d)) (numbers (length places)) ≡ filter (λ c. test c (said c)) (numbers head.possible)
tested_places head said places d test h =
    rw h.length_is
    (filter_agree (λ c. test c (get_or places c d)) (λ c. test c (said c)) head.possible
    (λ c b. ap (test c) (said_at head said places c d h b)))

-- whether a number is one of those that pass
pub among_places : (p : ℕ → Bool) (n c : ℕ) → among c (filter p (numbers n)) ≡ ltb c n && p c
among_places p n c =
    ap (λ k. ltb 0 k) (occurs-filter p c (numbers n) ∙ ap (λ k. cond (p c) k 0) (occurs-numbers c n)) ∙ go (p c) (ltb c n)
  where
    go : (a b : Bool) → ltb 0 (cond a (cond b 1 0) 0) ≡ b && a
    go true true = refl
    go true false = refl
    go false true = refl
    go false false = refl

-- the first of those that pass
pub first_place : (p : ℕ → Bool) (n c : ℕ) → c < n → p c ≡ true → passing p c ≡ 0 → first_of (filter p (numbers n)) ≡ c
first_place p n c b h none = go (filter p (numbers n)) (ap (slice_get (filter p (numbers n))) (sym none) ∙ place_at p n c b h)
  where
    same : (x : ℕ) → Some x ≡ Some c → x ≡ c
    same x e = cc

    none_some : None ≡ Some c → ⊥
    none_some e = cc

    go : (xs : List ℕ) → slice_get xs 0 ≡ Some c → first_of xs ≡ c
    go [] e = absurd (none_some e)
    go (x ∷ xs) e = same x e

pub no_place : (p : ℕ → Bool) (n : ℕ) → passing p n ≡ 0 → first_of (filter p (numbers n)) ≡ 0
no_place p n none = go (filter p (numbers n)) none
  where
    go : (xs : List ℕ) → length xs ≡ 0 → first_of xs ≡ 0
    go [] e = refl
    go (x ∷ xs) e = absurd (omega arith)

-- where a search that has passed so many stands at one more, and where it has found no more
pub found_here : (p : ℕ → Bool) (n c passed below : ℕ) → c < n → p c ≡ true → passing p c ≡ passed → passed ≡ below →
    Some c ≡ slice_get (filter p (numbers n)) below
found_here p n c passed below b h e f =
    sym (ap (slice_get (filter p (numbers n))) (sym (e ∙ f)) ∙ place_at p n c b h)

pub found_none : (p : ℕ → Bool) (n c passed below : ℕ) → c ≡ n → passing p c ≡ passed → passed ≤ below →
    None ≡ slice_get (filter p (numbers n)) below
found_none p n c passed below s e l =
    let h : passing p n ≤ below = rw (← s, e) l in sym (place_past p n below h)

-- how many of a list hold
count_upto : (xs : List Bool) (i : ℕ) → i ≤ length xs →
    length (filter (λ b. b) (take i xs)) ≡ passing (λ c. get_or xs c false) i
count_upto xs zero h = refl
count_upto xs (suc i) h =
    ap (λ n. length (filter (λ b. b) (take n xs))) (sym (add-one i))
    ∙ (length-filter_more (λ b. b) xs i false h
    ∙ (ap (λ n. n + cond (get_or xs i false) 1 0) (count_upto xs i (omega arith))
    ∙ (sym (passing-one (λ c. get_or xs c false) i) ∙ ap (passing (λ c. get_or xs c false)) (add-one i))))

pub count_places : (xs : List Bool) → length (filter (λ b. b) xs) ≡ passing (λ c. get_or xs c false) (length xs)
count_places xs = ap (λ ys. length (filter (λ b. b) ys)) (sym (take-length xs)) ∙ count_upto xs (length xs) (omega arith)

-- The lowest number below a bound that passes a test.
use Rattle.std.proofs.Common.{◌≡◌, ℕ, zero, suc, ◌+◌, ◌<◌, Bool, true, false, cond, eqb, ltb, is_some, Some, None, List, [], ◌∷◌, refl, sym, ap, ◌∙◌, arith}
use Rattle.std.specs.Prelude.{find}
use Rattle.std.specs.Option.{option_or}
use Rattle.std.proofs.lemmas.Bool.{true≢false, eqb-true, ltb-true, ltb-false}
use Rattle.std.proofs.lemmas.List.Folds.{find-append}
use Rattle.hp_model.specs.Lists.{occurs, numbers}

-- where one passes some is found
pub find_there : (p : ℕ → Bool) (c : ℕ) (xs : List ℕ) → p c ≡ true → 0 < occurs c xs → is_some (find p xs) ≡ true
find_there p c [] passes within = absurd (omega (arith, within))
find_there p c (x ∷ xs) passes within = go (p x) refl (eqb x c) refl within (λ more. find_there p c xs passes more)
  where
    go : (b : Bool) → p x ≡ b → (s : Bool) → eqb x c ≡ s → 0 < cond s 1 0 + occurs c xs →
        (0 < occurs c xs → is_some (find p xs) ≡ true) → is_some (cond b (Some x) (find p xs)) ≡ true
    go true e s f k more = refl
    go false e true f k more = absurd (true≢false (sym passes ∙ (ap p (sym (eqb-true x c f)) ∙ e)))
    go false e false f k more = more (omega (arith, k))

-- where none passes nothing is
pub find_no : (p : ℕ → Bool) (n : ℕ) → ((d : ℕ) → d < n → p d ≡ false) → find p (numbers n) ≡ None
find_no p zero none = refl
find_no p (suc n) none =
    let r = find_no p n (λ d below. none d (omega (arith, below))) in
    let last = none n (omega arith) in
    find-append p (numbers n) (n ∷ []) ∙ rw (r, last) refl

-- and one that passes is it, where none below does
pub find_least : (p : ℕ → Bool) (n c : ℕ) → p c ≡ true → ((d : ℕ) → d < c → p d ≡ false) → c < n → find p (numbers n) ≡ Some c
find_least p zero c is none below = absurd (omega (arith, below))
find_least p (suc n) c is none below = find-append p (numbers n) (n ∷ []) ∙ go (ltb c n) refl (λ less. find_least p n c is none less)
  where
    go : (b : Bool) → ltb c n ≡ b → (c < n → find p (numbers n) ≡ Some c) →
        option_or (find p (numbers n)) (find p (n ∷ [])) ≡ Some c
    go true e more = let r = more (ltb-true c n e) in rw r refl
    go false e more =
        let f = ltb-false c n e in
        let same : n ≡ c = omega (arith, f, below) in
        let r = find_no p n (λ d less. none d (omega (arith, less, same))) in
        let last : p n ≡ true = ap p same ∙ is in
        rw (r, last) (ap Some same)

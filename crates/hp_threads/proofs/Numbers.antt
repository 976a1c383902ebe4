-- Numbers: one below another or not, and those of present processors.
use Rattle.std.proofs.Common.{◌≡◌, ◌⊎◌, inl, inr, ℕ, suc, ◌+◌, ◌<◌, ◌≤◌, Bool, true, false, cond, ltb, ltb-true, ltb-false, List, [], ◌∷◌, ◌++◌, filter, refl, ap, ◌∙◌, ⊎_elim, arith, append-nil}
use Rattle.std.proofs.lemmas.List.Elements.{filter-append}
use Rattle.hp_event.specs.declared.head.Head.{Head}
use Rattle.hp_model.specs.Lists.{numbers}
use Rattle.hp_model.specs.Processors.{is_present}

pub below_or : (a b : ℕ) → (a < b) ⊎ (b ≤ a)
below_or a b = go (ltb a b) refl
  where
    go : (t : Bool) → ltb a b ≡ t → (a < b) ⊎ (b ≤ a)
    go true is = inl (ltb-true a b is)
    go false is = inr (ltb-false a b is)

pub less_or : (a b : ℕ) → a < b + 1 → (a < b) ⊎ (a ≡ b)
less_or a b h = ⊎_elim (λ (l : a < b). inl l) (λ (m : b ≤ a). inr (omega (arith, h, m))) (below_or a b)

pub same_or : (k m : ℕ) → k ≤ m → (m ≡ k) ⊎ (k + 1 ≤ m)
same_or k m h = ⊎_elim (λ (l : k < m). inr (omega (arith, l))) (λ (n : m ≤ k). inl (omega (arith, h, n))) (below_or k m)

-- the present processors below a number
abbrev pub present_below : Head → ℕ → List ℕ
present_below head n = filter (λ c. is_present head c) (numbers n)

pub present_there : (head : Head) (n : ℕ) → is_present head n ≡ true → present_below head (n + 1) ≡ present_below head n ++ n ∷ []
present_there head n h =
    let e : n + 1 ≡ suc n = omega arith in
    ap (present_below head) e
    ∙ (filter-append (λ c. is_present head c) (numbers n) (n ∷ [])
    ∙ ap (λ b. present_below head n ++ cond b (n ∷ []) []) h)

pub present_not : (head : Head) (n : ℕ) → is_present head n ≡ false → present_below head (n + 1) ≡ present_below head n
present_not head n h =
    let e : n + 1 ≡ suc n = omega arith in
    ap (present_below head) e
    ∙ (filter-append (λ c. is_present head c) (numbers n) (n ∷ [])
    ∙ (ap (λ b. present_below head n ++ cond b (n ∷ []) []) h ∙ append-nil (present_below head n)))

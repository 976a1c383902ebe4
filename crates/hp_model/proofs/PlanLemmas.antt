-- The plan of a walk by its first state: the states that have a key, rising or falling, between two others.
use Rattle.std.proofs.Common.{◌≡◌, ℕ, zero, suc, ◌+◌, ◌-◌, ◌<◌, ◌≤◌, false, not, List, [], ◌∷◌, ◌++◌, reverse, refl, ap, sym, ◌∙◌, arith, ⊎_elim}
use Rattle.std.proofs.lemmas.List.{append-nil, reverse-append}
use Rattle.std.proofs.lemmas.List.Elements.{filter-append}
use Rattle.std.proofs.lemmas.Bool.{cases_lt, lt-ltb, le-ltb}
use Rattle.hp_model.specs.Lists.{is_empty, rising}
use Rattle.hp_model.specs.Plan.{keyed, plan}

-- the states above a and up to b that have a key, rising
abbrev pub keyed_between : (keys : ℕ → List ℕ) → (a b : ℕ) → List ℕ
keyed_between keys a b = keyed keys (rising a (b - a))

-- a rising row in two parts
rising_parts : (a m n : ℕ) → rising a (m + n) ≡ rising a m ++ rising (a + m) n
rising_parts a zero n = let e : a + 0 ≡ a = omega arith in let f : 0 + n ≡ n = omega arith in rw (e, f) refl
rising_parts a (suc m) n =
    let e : suc m + n ≡ suc (m + n) = omega arith in
    let f : suc a + m ≡ a + suc m = omega arith in
    ap (rising a) e ∙ ap (λ xs. suc a ∷ xs) (rising_parts (suc a) m n ∙ ap (λ x. rising (suc a) m ++ rising x n) f)

keyed_none : (keys : ℕ → List ℕ) (a n : ℕ) → ((t : ℕ) → a < t → t ≤ a + n → keys t ≡ []) → keyed keys (rising a n) ≡ []
keyed_none keys a zero none = refl
keyed_none keys a (suc n) none =
    rw (none (suc a) (omega arith) (omega arith))
    (keyed_none keys (suc a) n (λ t above below. none t (omega arith) (omega arith)))

-- no state between them has a key
pub between_none : (keys : ℕ → List ℕ) (a b : ℕ) → ((t : ℕ) → a < t → t ≤ b → keys t ≡ []) → keyed_between keys a b ≡ []
between_none keys a b none = keyed_none keys a (b - a) (λ t above below. none t above (omega arith))

-- the states between two, in two parts
pub between_parts : (keys : ℕ → List ℕ) (a s b : ℕ) → a ≤ s → s ≤ b →
    keyed_between keys a b ≡ keyed_between keys a s ++ keyed_between keys s b
between_parts keys a s b from to =
    let parts : b - a ≡ (s - a) + (b - s) = omega arith in
    let mid : a + (s - a) ≡ s = omega arith in
    ap (λ n. keyed keys (rising a n)) parts
    ∙ ap (keyed keys) (rising_parts a (s - a) (b - s))
    ∙ filter-append (λ t. not (is_empty (keys t))) (rising a (s - a)) (rising (a + (s - a)) (b - s))
    ∙ ap (λ n. keyed_between keys a s ++ keyed keys (rising n (b - s))) mid

-- a state alone, which has a key
between_one : (keys : ℕ → List ℕ) (s : ℕ) → 0 < s → is_empty (keys s) ≡ false → keyed_between keys (s - 1) s ≡ s ∷ []
between_one keys s pos some =
    let one : s - (s - 1) ≡ 1 = omega arith in
    let this : suc (s - 1) ≡ s = omega arith in
    ap (λ n. keyed keys (rising (s - 1) n)) one ∙ ap (λ t. keyed keys (t ∷ [])) this ∙ rw some refl

-- the lowest of them
pub between_first : (keys : ℕ → List ℕ) (a s b : ℕ) → a < s → s ≤ b → is_empty (keys s) ≡ false →
    ((t : ℕ) → a < t → t < s → keys t ≡ []) → keyed_between keys a b ≡ s ∷ keyed_between keys s b
between_first keys a s b from to some none =
    between_parts keys a (s - 1) b (omega arith) (omega arith)
    ∙ ap (λ xs. xs ++ keyed_between keys (s - 1) b) (between_none keys a (s - 1) (λ t above below. none t above (omega arith)))
    ∙ between_parts keys (s - 1) s b (omega arith) to
    ∙ ap (λ xs. xs ++ keyed_between keys s b) (between_one keys s (omega arith) some)

-- the highest of them
pub between_last : (keys : ℕ → List ℕ) (a s b : ℕ) → a < s → s ≤ b → is_empty (keys s) ≡ false →
    ((t : ℕ) → s < t → t ≤ b → keys t ≡ []) → keyed_between keys a b ≡ keyed_between keys a (s - 1) ++ s ∷ []
between_last keys a s b from to some none =
    between_parts keys a s b (omega arith) to
    ∙ ap (λ xs. keyed_between keys a s ++ xs) (between_none keys s b none)
    ∙ append-nil (keyed_between keys a s)
    ∙ between_parts keys a (s - 1) s (omega arith) (omega arith)
    ∙ ap (λ xs. keyed_between keys a (s - 1) ++ xs) (between_one keys s (omega arith) some)

-- a plan up, and a plan down
pub plan_up : (keys : ℕ → List ℕ) (a b : ℕ) → a ≤ b → plan keys a b ≡ keyed_between keys a b
plan_up keys a b le =
    ⊎_elim
    (λ (lt : a < b). rw (lt-ltb a b lt) refl)
    (λ (ge : b ≤ a).
    let same : b ≡ a = omega arith in
    let none : a - a ≡ 0 = omega arith in
    rw (le-ltb a b ge, same, none) refl)
    (cases_lt a b)

pub plan_down : (keys : ℕ → List ℕ) (a b : ℕ) → b ≤ a → plan keys a b ≡ reverse (keyed_between keys b a)
plan_down keys a b le = rw (le-ltb a b le) refl

-- a plan up begins with the lowest state that has a key
pub plan_up_next : (keys : ℕ → List ℕ) (a s b : ℕ) → a < s → s ≤ b → is_empty (keys s) ≡ false →
    ((t : ℕ) → a < t → t < s → keys t ≡ []) → plan keys a b ≡ s ∷ plan keys s b
plan_up_next keys a s b from to some none =
    plan_up keys a b (omega arith)
    ∙ between_first keys a s b from to some none
    ∙ ap (λ xs. s ∷ xs) (sym (plan_up keys s b to))

-- a plan down begins with the highest
pub plan_down_next : (keys : ℕ → List ℕ) (a s b : ℕ) → a < s → s ≤ b → is_empty (keys s) ≡ false →
    ((t : ℕ) → s < t → t ≤ b → keys t ≡ []) → plan keys b a ≡ s ∷ plan keys (s - 1) a
plan_down_next keys a s b from to some none =
    plan_down keys b a (omega arith)
    ∙ ap reverse (between_last keys a s b from to some none)
    ∙ reverse-append (keyed_between keys a (s - 1)) (s ∷ [])
    ∙ ap (λ xs. s ∷ xs) (sym (plan_down keys (s - 1) a (omega arith)))

-- past states without a key the plan is the same
pub plan_up_past : (keys : ℕ → List ℕ) (a s b : ℕ) → a ≤ s → s ≤ b → ((t : ℕ) → a < t → t ≤ s → keys t ≡ []) →
    plan keys a b ≡ plan keys s b
plan_up_past keys a s b from to none =
    plan_up keys a b (omega arith)
    ∙ between_parts keys a s b from to
    ∙ ap (λ xs. xs ++ keyed_between keys s b) (between_none keys a s none)
    ∙ sym (plan_up keys s b to)

pub plan_down_past : (keys : ℕ → List ℕ) (a s b : ℕ) → a ≤ s → s ≤ b → ((t : ℕ) → s < t → t ≤ b → keys t ≡ []) →
    plan keys b a ≡ plan keys s a
plan_down_past keys a s b from to none =
    plan_down keys b a (omega arith)
    ∙ ap reverse
    (between_parts keys a s b from to
    ∙ ap (λ xs. keyed_between keys a s ++ xs) (between_none keys s b none)
    ∙ append-nil (keyed_between keys a s))
    ∙ sym (plan_down keys s a from)

-- where no state has a key the plan is empty
pub plan_up_none : (keys : ℕ → List ℕ) (a b : ℕ) → a ≤ b → ((t : ℕ) → a < t → t ≤ b → keys t ≡ []) → plan keys a b ≡ []
plan_up_none keys a b le none = plan_up keys a b le ∙ between_none keys a b none

pub plan_down_none : (keys : ℕ → List ℕ) (a b : ℕ) → a ≤ b → ((t : ℕ) → a < t → t ≤ b → keys t ≡ []) → plan keys b a ≡ []
plan_down_none keys a b le none = plan_down keys b a le ∙ ap reverse (between_none keys a b none)

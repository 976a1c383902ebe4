-- The states of a walk's plan, and where it gets stuck, are no higher than its ends.
use Rattle.std.proofs.Common.{◌≡◌, ℕ, zero, suc, ◌+◌, ◌-◌, ◌<◌, ◌≤◌, Bool, true, false, not, cond, ltb, pos, List, [], ◌∷◌, ◌++◌, reverse, refl, arith}
use Rattle.std.proofs.lemmas.List.{reverse-append}
use Rattle.std.proofs.lemmas.Bool.{ltb-true, ltb-false}
use Rattle.hp_states.specs.declared.dir.Dir.{Dir}
use Rattle.hp_states.specs.declared.dir.Dir.TheVariants.{Up, Down}
use Rattle.hp_event.specs.declared.answer.Answer.TheVariants.{Ok, Fault, Stuck}
use Rattle.hp_event.specs.declared.event.Event.{Event}
use Rattle.hp_model.specs.Crossing.{far}
use Rattle.hp_model.specs.Lists.{is_empty, rising}
use Rattle.hp_model.specs.Plan.{keyed, direction, plan}
use Rattle.hp_model.specs.WalkShape.{Outcome, went, returned, stopped, IsWalkShape, IsAnswer, IsWholeWalk}

-- none of the states is higher
abbrev pub Most : (n : ℕ) → List ℕ → Type 0
Most n [] = Unit {0}
Most n (s ∷ ss) = (s ≤ n) × Most n ss

most_rising : (a k n : ℕ) → a + k ≤ n → Most n (rising a k)
most_rising a zero n h = tt
most_rising a (suc k) n h = (omega (arith, h), most_rising (suc a) k n (omega (arith, h)))

most_keyed : (keys : ℕ → List ℕ) (n : ℕ) (ss : List ℕ) → Most n ss → Most n (keyed keys ss)
most_keyed keys n [] h = tt
most_keyed keys n (s ∷ ss) h = go (not (is_empty (keys s))) (most_keyed keys n ss h.1)
  where
    go : (b : Bool) → Most n (keyed keys ss) → Most n (cond b (s ∷ keyed keys ss) (keyed keys ss))
    go true k = (h.0, k)
    go false k = k

most_append : (n : ℕ) (xs ys : List ℕ) → Most n xs → Most n ys → Most n (xs ++ ys)
most_append n [] ys h k = k
most_append n (x ∷ xs) ys h k = (h.0, most_append n xs ys h.1 k)

most_reverse : (n : ℕ) (xs : List ℕ) → Most n xs → Most n (reverse xs)
most_reverse n [] h = tt
most_reverse n (x ∷ xs) h =
    rw (reverse-append (x ∷ []) xs) (most_append n (reverse xs) (x ∷ []) (most_reverse n xs h.1) (h.0, tt))

pub most_at : (n : ℕ) (xs : List ℕ) (y : ℕ) (ys : List ℕ) → Most n (xs ++ y ∷ ys) → y ≤ n
most_at n [] y ys h = h.0
most_at n (x ∷ xs) y ys h = most_at n xs y ys h.1

pub plan_most : (keys : ℕ → List ℕ) (from to n : ℕ) → from ≤ n → to ≤ n → Most n (plan keys from to)
plan_most keys from to n h k = go (ltb from to) refl
  where
    go : (up : Bool) → ltb from to ≡ up →
        Most n (cond up (keyed keys (rising from (to - from))) (reverse (keyed keys (rising to (from - to)))))
    go true e =
        let lt : from < to = ltb-true from to e in
        most_keyed keys n (rising from (to - from)) (most_rising from (to - from) n (omega (arith, lt, k)))
    go false e =
        let ge : to ≤ from = ltb-false from to e in
        most_reverse n (keyed keys (rising to (from - to)))
        (most_keyed keys n (rising to (from - to)) (most_rising to (from - to) n (omega (arith, ge, h))))

far_most : (d : Dir) (s n : ℕ) → s ≤ n → far d s ≤ n
far_most Up s n h = h
far_most Down s n h = omega (arith, h)

-- where a walk gets stuck
pub stuck_most : (c : ℕ) (keys : ℕ → List ℕ) (from to n : ℕ) (entries : List Event) (first second at : ℕ) →
    IsWholeWalk c keys (direction from to) (plan keys from to) entries (Stuck first second at) → from ≤ n → to ≤ n → at ≤ n
stuck_most c keys from to n entries first second at whole h k = go whole.outcome whole.answered whole.shape
  where
    not_ok : Stuck first second at ≡ Ok (pos 0) → ⊥
    not_ok e = cc e

    not_fault : (e : ℕ) → Stuck first second at ≡ Fault e → ⊥
    not_fault e is = cc is

    same_at : (e f stuck : ℕ) → Stuck first second at ≡ Stuck e f stuck → at ≡ stuck
    same_at e f stuck is = cc is

    go : (o : Outcome) → IsAnswer o entries (Stuck first second at) →
        IsWalkShape keys (direction from to) (plan keys from to) whole.crossings o → at ≤ n
    go went a s = absurd (not_ok a)
    go returned a s = absurd (not_fault a.0 a.2)
    go (stopped stuck) a s =
        let m : Most n (s.before ++ (s.stuck_state ∷ (s.between ++ s.state ∷ s.after))) =
        rw s.plan_is at (plan_most keys from to n h k) in
        rw (same_at a.0 a.1 stuck a.3, s.at_is) (far_most (direction from to) s.stuck_state n (most_at n s.before s.stuck_state _ m))

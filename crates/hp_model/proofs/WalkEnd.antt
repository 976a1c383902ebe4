-- The end of a walk: the entries that lead to the end of the plan, with the answer of their faults, are a whole walk.
use Rattle.std.proofs.Common.{◌≡◌, ℕ, Bool, true, false, cond, not, Some, List, [], ◌∷◌, map, refl, sym, ◌∙◌}
use Rattle.std.proofs.lemmas.Bool.{true≢false, false≢true}
use Rattle.hp_states.proofs.Basics.{none_some, same_some}
use Rattle.hp_states.specs.declared.dir.Dir.{Dir}
use Rattle.hp_event.specs.declared.answer.Answer.{Answer}
use Rattle.hp_event.specs.declared.how.How.{How}
use Rattle.hp_event.specs.declared.how.How.TheVariants.{RanOk, RanFault, Injected, Empty, Presumed, Overruled}
use Rattle.hp_event.specs.declared.event.Event.{Event}
use Rattle.hp_event.specs.declared.event.Event.TheVariants.{Call}
use Rattle.hp_model.specs.Entries.{is_done, codes_of_faults}
use Rattle.hp_model.specs.Crossing.{Slot, Fill, slots}
use Rattle.hp_model.specs.WalkShape.{IsAnswer, IsWholeWalk}
use Rattle.hp_model.specs.Faults.{Faulty, faults, walk_answer}
use Rattle.hp_model.proofs.Cursor.{StandsAt, end_of_walk}
use Rattle.hp_model.proofs.NextSlot.{stop}
use Rattle.hp_model.proofs.Failing.{failing, outcome_of, shape_outcome}

-- the faults among the entries that fill some slots
pub fill_faults : (xs : List Slot) (es : List Event) → Fill xs es →
    (failing xs ≡ map (λ f. f.state) (faults es)) × (codes_of_faults es ≡ map (λ f. f.code) (faults es))
fill_faults [] [] h = (refl, refl)
fill_faults [] (e ∷ es) h = elim h [ ]
fill_faults (x ∷ xs) [] h = elim h [ ]
fill_faults (x ∷ xs) (Call seat cpu state inst dir how ∷ es) h = go how x.fails h.0.4 (fill_faults xs es h.1)
  where
    ok : (b : Bool) → true ≡ not b → b ≡ false
    ok true h = absurd (true≢false h)
    ok false h = refl

    bad : (b : Bool) → false ≡ not b → b ≡ true
    bad true h = refl
    bad false h = absurd (false≢true h)

    go : (how : How) (b : Bool) → is_done how ≡ not b →
        (failing xs ≡ map (λ f. f.state) (faults es)) × (codes_of_faults es ≡ map (λ f. f.code) (faults es)) →
        (cond b (x.state ∷ failing xs) (failing xs) ≡ map (λ f. f.state) (faults (Call seat cpu state inst dir how ∷ es)))
        × (codes_of_faults (Call seat cpu state inst dir how ∷ es)
        ≡ map (λ f. f.code) (faults (Call seat cpu state inst dir how ∷ es)))
    go RanOk b e r = (rw (ok b e) r.0, r.1)
    go (RanFault code) b e r = (rw (bad b e, ← h.0.1, r.0) refl, rw r.1 refl)
    go Injected b e r = (rw (bad b e, ← h.0.1, r.0) refl, rw r.1 refl)
    go Empty b e r = (rw (ok b e) r.0, r.1)
    go Presumed b e r = (rw (ok b e) r.0, r.1)
    go (Overruled code) b e r = (rw (ok b e) r.0, r.1)
fill_faults (x ∷ xs) (e ∷ es) h = elim h.0 [ ]

-- the answer of an outcome, by the faults
answer_if : (d : Dir) (es : List Event) (answer : Answer) (fs : List Faulty) → codes_of_faults es ≡ map (λ f. f.code) fs →
    walk_answer d fs ≡ Some answer → IsAnswer (outcome_of d (map (λ f. f.state) fs)) es answer
answer_if d es answer [] h k = sym (same_some _ _ k)
answer_if d es answer (f ∷ []) h k = (f.code, h, sym (same_some _ _ k))
answer_if d es answer (f ∷ (g ∷ [])) h k = (f.code, g.code, h, sym (same_some _ _ k))
answer_if d es answer (f ∷ (g ∷ (j ∷ js))) h k = absurd (none_some _ k)

pub whole_walk : (c : ℕ) (K : ℕ → List ℕ) (d : Dir) (p : List ℕ) (es : List Event) (answer : Answer) →
    StandsAt c K d p es stop → walk_answer d (faults es) ≡ Some answer → IsWholeWalk c K d p es answer
whole_walk c K d p es answer h k =
    let e = end_of_walk c K d p es h in
    let f = fill_faults (slots c K e.crossings) es e.filled in
    let o = shape_outcome c K d p e.crossings e.outcome e.shape in
    record {
      outcome = e.outcome;
      crossings = e.crossings;
      shape = e.shape;
      filled = e.filled;
      answered = rw (o.0, f.0) (answer_if d es answer (faults es) f.1 k);
    }

-- and the other way round: the answer of a whole walk is that of its faults
pub first_code : (a b : ℕ) (xs ys : List ℕ) → a ∷ xs ≡ b ∷ ys → a ≡ b
first_code a b xs ys h = cc

second_code : (a b c e : ℕ) (xs ys : List ℕ) → a ∷ (c ∷ xs) ≡ b ∷ (e ∷ ys) → c ≡ e
second_code a b c e xs ys h = cc

no_third : (a b c e f : ℕ) (xs : List ℕ) → a ∷ (c ∷ (f ∷ xs)) ≡ b ∷ (e ∷ []) → ⊥
no_third a b c e f xs h = cc

answer_only : (d : Dir) (es : List Event) (answer : Answer) (fs : List Faulty) → codes_of_faults es ≡ map (λ f. f.code) fs →
    IsAnswer (outcome_of d (map (λ f. f.state) fs)) es answer → walk_answer d fs ≡ Some answer
answer_only d es answer [] h k = rw k refl
answer_only d es answer (f ∷ []) h k = rw (k.2, first_code f.code k.0 [] [] (sym h ∙ k.1)) refl
answer_only d es answer (f ∷ (g ∷ [])) h k =
    let q = sym h ∙ k.2 in
    rw (k.3, first_code f.code k.0 _ _ q, second_code f.code k.0 g.code k.1 [] [] q) refl
answer_only d es answer (f ∷ (g ∷ (j ∷ js))) h k = absurd (no_third f.code k.0 g.code k.1 j.code _ (sym h ∙ k.2))

pub walk_answered : (c : ℕ) (K : ℕ → List ℕ) (d : Dir) (p : List ℕ) (es : List Event) (answer : Answer) →
    IsWholeWalk c K d p es answer → walk_answer d (faults es) ≡ Some answer
walk_answered c K d p es answer h =
    let f = fill_faults (slots c K h.crossings) es h.filled in
    let o = shape_outcome c K d p h.crossings h.outcome h.shape in
    answer_only d es answer (faults es) f.1 (rw (o.0, f.0) at h.answered)

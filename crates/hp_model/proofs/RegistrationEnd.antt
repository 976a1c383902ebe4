-- The end of a registration: the entries that lead to the end of its tree, with the answer of their faults, are the whole of it, and the
-- answer of a whole one is that of its faults.
use Rattle.std.proofs.Common.{◌≡◌, ℕ, Some, List, [], ◌∷◌, map, sym, refl, ◌∙◌}
use Rattle.hp_states.proofs.Basics.{none_some, same_some}
use Rattle.hp_event.specs.declared.answer.Answer.{Answer}
use Rattle.hp_event.specs.declared.head.Head.{Head}
use Rattle.hp_event.specs.declared.event.Event.{Event}
use Rattle.hp_model.specs.Registrations.{Registration}
use Rattle.hp_model.specs.Processors.{processors}
use Rattle.hp_model.specs.Entries.{codes_of_faults}
use Rattle.hp_model.specs.Faults.{Faulty, faults, registration_answer}
use Rattle.hp_model.specs.RegistrationShape.{key_of, is_adding, ok_value, IsRegistrationAnswer, IsWholeRegistration}
use Rattle.hp_model.specs.Trees.{stop, registration_tree}
use Rattle.hp_model.proofs.Cursor.{Runs, end_in}
use Rattle.hp_model.proofs.RegistrationCursor.{registration_shape, outcome_of, shape_outcome}
use Rattle.hp_model.proofs.WalkEnd.{fill_faults, first_code}

answer_if : (value : ℕ) (es : List Event) (answer : Answer) (fs : List Faulty) → codes_of_faults es ≡ map (λ f. f.code) fs →
    registration_answer value fs ≡ Some answer → IsRegistrationAnswer (outcome_of (map (λ f. f.state) fs)) value es answer
answer_if value es answer [] h k = sym (same_some _ _ k)
answer_if value es answer (f ∷ []) h k = (f.code, h, sym (same_some _ _ k))
answer_if value es answer (f ∷ (g ∷ gs)) h k = absurd (none_some _ k)

pub whole_registration : (head : Head) (r : Registration) (es : List Event) (answer : Answer) →
    Runs (registration_tree (is_adding r.op) r.state (key_of head r) (processors head r.state r.before)) es stop →
    registration_answer (ok_value r.op r.state) (faults es) ≡ Some answer → IsWholeRegistration head r es answer
whole_registration head r es answer h k =
    let cs = processors head r.state r.before in
    let e = end_in (registration_tree (is_adding r.op) r.state (key_of head r) cs) es h in
    let g = registration_shape (is_adding r.op) r.state (key_of head r) cs e.slots e.follows in
    let f = fill_faults e.slots es e.filled in
    let o = shape_outcome (is_adding r.op) r.state (key_of head r) cs e.slots g.outcome g.shape in
    record {
      outcome = g.outcome;
      slots = e.slots;
      shape = g.shape;
      filled = e.filled;
      answered = rw (o.0, f.0) (answer_if (ok_value r.op r.state) es answer (faults es) f.1 k);
    }

no_second : (a b c : ℕ) (xs : List ℕ) → a ∷ (c ∷ xs) ≡ b ∷ [] → ⊥
no_second a b c xs h = cc

answer_only : (value : ℕ) (es : List Event) (answer : Answer) (fs : List Faulty) → codes_of_faults es ≡ map (λ f. f.code) fs →
    IsRegistrationAnswer (outcome_of (map (λ f. f.state) fs)) value es answer → registration_answer value fs ≡ Some answer
answer_only value es answer [] h k = rw k refl
answer_only value es answer (f ∷ []) h k = rw (k.2, first_code f.code k.0 [] [] (sym h ∙ k.1)) refl
answer_only value es answer (f ∷ (g ∷ gs)) h k = absurd (no_second f.code k.0 g.code _ (sym h ∙ k.1))

pub registration_answered : (head : Head) (r : Registration) (es : List Event) (answer : Answer) →
    IsWholeRegistration head r es answer → registration_answer (ok_value r.op r.state) (faults es) ≡ Some answer
registration_answered head r es answer h =
    let f = fill_faults h.slots es h.filled in
    let o = shape_outcome (is_adding r.op) r.state (key_of head r) (processors head r.state r.before) h.slots h.outcome h.shape in
    answer_only (ok_value r.op r.state) es answer (faults es) f.1 (rw (o.0, f.0) at h.answered)

-- One event more, for how operations were answered.
use Rattle.std.proofs.Common.{◌≡◌, ℕ, ◌+◌, ◌<◌, ◌≤◌, ◌^◌, Bool, true, false, cond, if◌then◌else◌, List, [], ◌∷◌, ◌++◌, length, refl, ◌∙◌, arith}
use Rattle.std.proofs.lemmas.List.Sums.{count_by-le-length, sum_by_push}
use Rattle.hp_event.specs.declared.event.Event.{Event}
use Rattle.hp_model.specs.Summary.{Kind, ok, refused, fault, stuck, full, is_some_kind, answered_by}
use Rattle.hp_model.specs.Events.{answer_by}
use Rattle.hp_print.specs.declared.answer_counts.AnswerCounts.{AnswerCounts}
use Rattle.hp_print.specs.Counts.{one_more}
use Rattle.hp_print.specs.Steps.{answers_after}
use Rattle.hp_print.specs.Tallies.{IsAnswerCounts}
use Rattle.hp_print.proofs.SuspendTallyStep.{one_more_is}

answered_push : (k : Kind) (xs : List Event) (e : Event) →
    answered_by k (xs ++ e ∷ []) ≡ answered_by k xs + cond (is_some_kind k (answer_by e)) 1 0
unfolding answered_by
answered_push k xs e = sum_by_push (λ x. cond (is_some_kind k (answer_by x)) 1 0) xs e

answered_few : (k : Kind) (xs : List Event) → answered_by k xs ≤ length xs
unfolding answered_by
answered_few k xs = count_by-le-length (λ x. is_some_kind k (answer_by x)) xs

answered_as : (k : Kind) (n : ℕ) (xs : List Event) (e : Event) → length xs < 2 ^ 63 → n ≡ answered_by k xs →
    answers_after k n e ≡ answered_by k (xs ++ e ∷ [])
answered_as k n xs e l h = rw (answered_push, h) (go (is_some_kind k (answer_by e))) where
  go : (b : Bool) → (if b then one_more (answered_by k xs) else answered_by k xs) ≡ answered_by k xs + cond b 1 0
  go true = one_more_is (answered_by k xs) (length xs) (answered_few k xs) l
  go false = omega arith

pub answers_step : (xs : List Event) (e : Event) (a b : AnswerCounts) → length xs < 2 ^ 63 → IsAnswerCounts xs a →
    b.ok ≡ answers_after ok a.ok e → b.refused ≡ answers_after refused a.refused e →
    b.fault ≡ answers_after fault a.fault e → b.stuck ≡ answers_after stuck a.stuck e →
    b.full ≡ answers_after full a.full e → IsAnswerCounts (xs ++ e ∷ []) b
answers_step xs e a b l h p q r s t = record {
  ok_is = p ∙ answered_as ok a.ok xs e l h.ok_is;
  refused_is = q ∙ answered_as refused a.refused xs e l h.refused_is;
  fault_is = r ∙ answered_as fault a.fault xs e l h.fault_is;
  stuck_is = s ∙ answered_as stuck a.stuck xs e l h.stuck_is;
  full_is = t ∙ answered_as full a.full xs e l h.full_is;
}

pub no_answers : IsAnswerCounts [] (record { ok = 0; refused = 0; fault = 0; stuck = 0; full = 0 })
unfolding answered_by
no_answers = record { ok_is = refl; refused_is = refl; fault_is = refl; stuck_is = refl; full_is = refl }

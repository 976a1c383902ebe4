-- An operation that is answered leaves its seat with nothing in flight.
use Rattle.std.proofs.Common.{◌≡◌, ℕ, false, List, [], ◌∷◌, ◌++◌, refl, ap, sym, ⊎_elim, subst, is_some}
use Rattle.hp_event.specs.declared.answer.Answer.{Answer}
use Rattle.hp_event.specs.declared.op.Op.{Op}
use Rattle.hp_event.specs.declared.head.Head.{Head}
use Rattle.hp_event.specs.declared.event.Event.{Event}
use Rattle.hp_model.specs.Seats.{is_busy}
use Rattle.hp_model.specs.Lawful.{IsLawful}
use Rattle.hp_model.proofs.NextStands.{next_stands}
use Rattle.hp_board.proofs.GoesOn.{answer_frees}
use Rattle.hp_live.specs.Runs.{AnsweredBy, FullFor, IsAnswered}
use Rattle.hp_live.proofs.Running.{idle_full}

by_event : (head : Head) (k : ℕ) (op : Op) (old new : List Event) (answer : Answer) → (a : AnsweredBy head k op old new answer) →
    IsLawful head a.before → is_busy k new ≡ false
by_event head k op old new answer a lawful =
    let s = next_stands head a.before k op a.event a.next_is in
    subst (λ (w : List Event). is_busy k w ≡ false) (sym a.new_is)
    (subst (λ (z : ℕ). is_busy z (a.before ++ a.event ∷ []) ≡ false) s.1
    (answer_frees head a.before a.event lawful s.0.0 (ap is_some a.answers)))

pub answered_idle : (head : Head) (k : ℕ) (op : Op) (old new : List Event) (answer : Answer) → IsAnswered head k op old new answer →
    is_busy k new ≡ false
answered_idle head k op old new answer a =
    ⊎_elim (λ (b : AnsweredBy head k op old new answer). by_event head k op old new answer b b.lawful)
    (λ (f : FullFor head k op old new answer). idle_full head new k op (is_busy k new) refl f.full) a

-- An operation that nothing stands against is answered Ok, or LogFull where there is no room for a walk of it.
use Rattle.std.proofs.Common.{◌≡◌, ℕ, pos, Bool, true, false, eqb, ◌||◌, Option, Some, None, List, [], ◌∷◌, ◌++◌, ◌⊎◌, inl, inr, refl, sym, ap, ◌∙◌}
use Rattle.std.proofs.lemmas.Bool.{true≢false, eqb-true}
use Rattle.hp_event.specs.declared.answer.Answer.{Answer}
use Rattle.hp_event.specs.declared.answer.Answer.TheVariants.{Ok, LogFull}
use Rattle.hp_event.specs.declared.answer.Answer.TheVariants as answers_are
use Rattle.hp_states.specs.declared.limits.TheConstants.{EBUSY}
use Rattle.hp_event.specs.declared.head.Head.{Head}
use Rattle.hp_event.specs.declared.event.Event.{Event}
use Rattle.hp_event.specs.declared.event.Event.TheVariants.{WalkEnd}
use Rattle.hp_event.specs.declared.op.Op.{Op}
use Rattle.hp_model.specs.Completes.{IsAnswerOf, Completes}
use Rattle.hp_model.specs.Entries.{codes_of_faults}
use Rattle.hp_model.specs.Events.{seat_of, answer_by, BelongsTo}
use Rattle.hp_model.specs.Lawful.{IsLawful, Stands}
use Rattle.hp_model.specs.MapLock.{Operation, operation}
use Rattle.hp_model.specs.Own.{own_faults}
use Rattle.hp_model.specs.Pending.{Pending, IsAllowed}
use Rattle.hp_model.specs.Registrations.{Registration, registration}
use Rattle.hp_model.specs.Seats.{holds_map, registers, is_busy}
use Rattle.hp_model.specs.Suspend.{is_ok}
use Rattle.hp_model.specs.Walks.{walk_entries}
use Rattle.hp_model.proofs.CompletesProof.{completes, walk_ends_ok as walk_ok}
use Rattle.hp_model.proofs.HeadlineProof.{lawful_more}
use Rattle.hp_model.proofs.NextStands.{next_stands, next_belongs}
use Rattle.hp_board.specs.declared.turn.Turn.TheVariants.{Answered}
use Rattle.hp_board.specs.Against.{NothingAgainst}
use Rattle.hp_board.specs.Contents.{Contents}
use Rattle.hp_board.specs.Turns.{IsTurn}

pub walk_ends_ok : (head : Head) (xs : List Event) (seat cpu : ℕ) (answer : Answer) → Stands head xs (WalkEnd seat cpu answer) →
    codes_of_faults (walk_entries cpu xs) ≡ [] → answer ≡ Ok (pos 0)
walk_ends_ok head xs seat cpu answer stands none = walk_ok head xs seat cpu answer stands.0 none

abbrev OkOrFull : Answer → Type 0
OkOrFull answer = (is_ok answer ≡ true) ⊎ (answer ≡ LogFull)

-- a busy seat has an operation or a registration in flight
data InFlight (xs : List Event) (k : ℕ) : Type 0 where
  operating : (o : Operation) → operation xs ≡ Some o → o.seat ≡ k → InFlight xs k
  registering : (r : Registration) → registration xs ≡ Some r → r.seat ≡ k → InFlight xs k

in_flight : (xs : List Event) (k : ℕ) → is_busy k xs ≡ true → InFlight xs k
in_flight xs k busy = held (operation xs) refl busy
  where
    registers_it : (r : Option Registration) → registration xs ≡ r → registers k r ≡ true → InFlight xs k
    registers_it None q b = absurd (true≢false (sym b))
    registers_it (Some r) q b = registering r q (eqb-true r.seat k b)

    first : (o : Operation) → operation xs ≡ Some o → (b : Bool) → eqb o.seat k ≡ b → (b || registers k (registration xs)) ≡ true →
        InFlight xs k
    first o q true e b = operating o q (eqb-true o.seat k e)
    first o q false e b = registers_it (registration xs) refl b

    held : (o : Option Operation) → operation xs ≡ o → (holds_map k o || registers k (registration xs)) ≡ true → InFlight xs k
    held None q b = registers_it (registration xs) refl b
    held (Some o) q b = first o q (eqb o.seat k) refl b

one_of : (head : Head) (xs : List Event) (k : ℕ) (asked : Op) (o : Operation) (answer : Answer) → NothingAgainst head xs k asked →
    operation xs ≡ Some o → o.seat ≡ k → IsAnswerOf head o xs answer → OkOrFull answer
one_of head xs k asked o answer n held by a = go a.one_of
  where
    go : (answer ≡ Ok (pos 0)) ⊎ ((answer ≡ LogFull) ⊎ (answer ≡ answers_are.Refused EBUSY)) → OkOrFull answer
    go (inl zero) = inl (ap is_ok zero)
    go (inr (inl full)) = inr full
    go (inr (inr woken)) = absurd (n.no_wakeup o held by (a.woken.0 woken))

busy_answer : (head : Head) (xs : List Event) (k : ℕ) (asked : Op) (e : Event) (answer : Answer) → Completes head (xs ++ e ∷ []) →
    NothingAgainst head xs k asked → seat_of e ≡ k → answer_by e ≡ Some answer → InFlight xs k → OkOrFull answer
busy_answer head xs k asked e answer c n by is (operating o held at) =
    one_of head xs k asked o answer n held at
    (c.operations xs e answer o refl is held (at ∙ sym by) (ap (λ j. own_faults j xs) at ∙ n.no_fault))
busy_answer head xs k asked e answer c n by is (registering r held at) =
    inl (ap is_ok ((c.registrations xs e answer r refl is held (at ∙ sym by)).0 (ap (λ j. own_faults j xs) at ∙ n.no_fault)))

answers_so : (head : Head) (xs : List Event) (k : ℕ) (asked : Op) (e : Event) (answer : Answer) → Completes head (xs ++ e ∷ []) →
    NothingAgainst head xs k asked → seat_of e ≡ k → BelongsTo asked e → answer_by e ≡ Some answer → OkOrFull answer
answers_so head xs k asked e answer c n by of is = go (is_busy k xs) refl
  where
    go : (b : Bool) → is_busy k xs ≡ b → OkOrFull answer
    go true busy = busy_answer head xs k asked e answer c n by is (in_flight xs k busy)
    go false idle = inl ((c.at_once xs e answer asked refl is (rw by idle) of).1 (rw by (n.not_refused idle)))

-- the answer of a turn
pub answers_ok : (old new : Contents) (p : Pending) (at : Option ℕ) (answer : Answer) → IsLawful old.head old.events →
    IsAllowed old.head old.events p → NothingAgainst old.head old.events p.seat p.op →
    IsTurn p.seat p.op old new (Answered at answer) → OkOrFull answer
answers_ok old new p (Some at) answer lawful a n t =
    let s = next_stands old.head old.events p.seat p.op t.event t.next_is in
    let more = lawful_more old.head old.events t.event lawful s.0 in
    answers_so old.head old.events p.seat p.op t.event answer (completes old.head (old.events ++ t.event ∷ []) more) n s.1
    (next_belongs old.head old.events p t.event lawful a t.next_is) t.answer_is
answers_ok old new p None answer lawful a n t = inr t.answer_is

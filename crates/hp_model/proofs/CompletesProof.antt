-- Completeness, from what walks answered and what comes next.
use Rattle.std.proofs.Common.{◌≡◌, ℕ, ℤ, pos, Bool, true, false, cond, eqb, Option, Some, None, List, [], arith, ◌∷◌, ◌++◌, length, inl, inr, refl, sym, ap, ◌∙◌}
use Rattle.std.specs.Prelude.{◌↔◌}
use Rattle.std.proofs.lemmas.Bool.{true≢false, eqb-true, eq-eqb}
use Rattle.hp_states.proofs.Basics.{none_some, not_equal, same_some}
use Rattle.hp_states.specs.declared.limits.TheConstants.{EBUSY}
use Rattle.hp_event.specs.declared.answer.Answer.{Answer}
use Rattle.hp_event.specs.declared.answer.Answer.TheVariants.{Ok, LogFull}
use Rattle.hp_event.specs.declared.answer.Answer.TheVariants as answers_are
use Rattle.hp_event.specs.declared.op.Op.{Op}
use Rattle.hp_event.specs.declared.head.Head.{Head}
use Rattle.hp_event.specs.declared.event.Event.{Event}
use Rattle.hp_event.specs.declared.event.Event.TheVariants.{Refused, WalkEnd, OpEnd, RegEnd, ReadLock, ReadUnlock, Armed, Shown, Wakeup}
use Rattle.hp_model.specs.Entries.{codes_of_faults}
use Rattle.hp_model.specs.Events.{seat_of, answer_by, BelongsTo}
use Rattle.hp_model.specs.Lawful.{Comes, IsLawful}
use Rattle.hp_model.specs.MapLock.{Operation, operation}
use Rattle.hp_model.specs.Own.{operation_entries, own_faults}
use Rattle.hp_model.specs.Completes.{IsShort, IsAnswerOf, counts_failures, IsCountOf, AreFaultless, Completes}
use Rattle.hp_model.specs.Refusals.{refusal, Passes}
use Rattle.hp_model.specs.RegistrationShape.{Registering, made, undone, key_of, is_adding, ok_value, IsRegistrationShape, IsRegistrationAnswer}
use Rattle.hp_model.specs.Registrations.{Registration, registration, registration_entries}
use Rattle.hp_model.specs.Seats.{is_busy, holds_map, registers}
use Rattle.hp_model.specs.Sequence.{ends, next, answers, failures}
use Rattle.hp_model.specs.StandsOperations.{IsCut, OpEnds}
use Rattle.hp_model.specs.StandsRegistrations.{RegEnds}
use Rattle.hp_model.specs.Suspend.{is_ok}
use Rattle.hp_model.specs.Walks.{walk_entries, is_walking}
use Rattle.hp_model.proofs.Owners.{Owners, idle_op, idle_reg}
use Rattle.hp_model.proofs.OneNext.{owners}
use Rattle.hp_model.proofs.RegistrationCursor.{shape_failing}
use Rattle.hp_model.proofs.WalkEnd.{fill_faults}
use Rattle.hp_model.proofs.InFlight.{walk_none}
use Rattle.hp_model.specs.Faults.{faults}
use Rattle.hp_model.specs.Crossing.{Slot, Fill}
use Rattle.hp_model.specs.Processors.{processors}
use Rattle.hp_model.proofs.HeadlineProof.{last, lawful_front}
use Rattle.hp_model.proofs.Faultless.{codes_parts, codes_both, walked_ok, registered_ok, Clean, clean, no_failures, no_states, not_ok, ok_faultless, faultless}
use Rattle.hp_model.proofs.EndAnswers.{same_end, no_end, count_is, woken_next, ZeroOrWoken, over_is, few, no_failed_walk}

ok_full : (n : ℤ) (a : Answer) → a ≡ Ok n → a ≡ LogFull → ⊥
ok_full n a h k = cc

ok_refused : (n : ℤ) (errno : ℕ) (a : Answer) → a ≡ Ok n → a ≡ answers_are.Refused errno → ⊥
ok_refused n errno a h k = cc

full_refused : (errno : ℕ) (a : Answer) → a ≡ LogFull → a ≡ answers_are.Refused errno → ⊥
full_refused errno a h k = cc

-- where no walk could begin, none is short of room
ends_not_short : (head : Head) (xs : List Event) (o : Operation) (answer : Answer) → operation xs ≡ Some o →
    next head xs o.before o.op ≡ ends answer → IsShort head o.seat xs → ⊥
ends_not_short head xs o answer held is s =
    let b = s.kept_out.0 in
    let same : b.of ≡ o = same_some b.of o (sym b.held ∙ held) in
    no_end s.cpu s.to answer (sym (rw same at b.gives) ∙ is)

over_answer : (head : Head) (xs : List Event) (o : Operation) (answer : Answer) → Clean xs → operation xs ≡ Some o →
    next head xs o.before o.op ≡ ends answer → IsAnswerOf head o xs answer
over_answer head xs o answer c held is = go (over_is head o xs answer c.walked o.op refl is)
  where
    short : IsShort head o.seat xs → ⊥
    short s = ends_not_short head xs o answer held is s

    go : ZeroOrWoken head o xs answer → IsAnswerOf head o xs answer
    go (inl zero) = record {
      one_of = inl zero;
      full = (λ q. absurd (ok_full (pos 0) answer zero q), λ s. absurd (short s));
      woken = (
        λ q. absurd (ok_refused (pos 0) EBUSY answer zero q),
        λ w. sym (same_end (answers_are.Refused EBUSY) answer (sym (woken_next head o xs (no_failures (answers xs) c.walked) w) ∙ is)),
      );
    }
    go (inr r) = record {
      one_of = inr (inr r.0);
      full = (λ q. absurd (full_refused EBUSY answer q r.0), λ s. absurd (short s));
      woken = (λ q. r.1, λ w. r.0);
    }

cut_short : (head : Head) (xs : List Event) (o : Operation) (seat : ℕ) (answer : Answer) → o.seat ≡ seat → IsCut head xs seat answer →
    IsShort head o.seat xs
cut_short head xs o seat answer by cut =
    rw by (record { cpu = cut.cpu; from = cut.from; to = cut.to; kept_out = (cut.begins, cut.no_room) })

cut_answer : (head : Head) (xs : List Event) (o : Operation) (seat : ℕ) (answer : Answer) → Clean xs → operation xs ≡ Some o →
    o.seat ≡ seat → IsCut head xs seat answer → IsAnswerOf head o xs answer
cut_answer head xs o seat answer c held by cut =
    let same : cut.begins.of ≡ o = same_some cut.begins.of o (sym cut.begins.held ∙ held) in
    record {
      one_of = inr (inl cut.answer_is);
      full = (λ q. cut_short head xs o seat answer by cut, λ s. cut.answer_is);
      woken = (
        λ q. absurd (full_refused EBUSY answer cut.answer_is q),
        λ w.
            absurd
            (no_end cut.cpu cut.to (answers_are.Refused EBUSY)
            (sym (rw same at cut.begins.gives) ∙ woken_next head o xs (no_failures (answers xs) c.walked) w)),
      );
    }

end_answer : (head : Head) (xs : List Event) (o : Operation) (seat : ℕ) (answer : Answer) → Clean xs → operation xs ≡ Some o →
    o.seat ≡ seat → OpEnds head xs seat answer → IsAnswerOf head o xs answer
end_answer head xs o seat answer c held by (inl over) =
    let same : over.of ≡ o = same_some over.of o (sym over.held ∙ held) in
    over_answer head xs o answer c held (rw same at over.gives)
end_answer head xs o seat answer c held by (inr cut) = cut_answer head xs o seat answer c held by cut

-- a free seat has no operation in flight
no_operation : (xs : List Event) (k : ℕ) (o : Operation) → is_busy k xs ≡ false → operation xs ≡ Some o → o.seat ≡ k → ⊥
no_operation xs k o idle held by = not_equal o.seat k (idle_op xs k o idle held) by

no_registration : (xs : List Event) (k : ℕ) (r : Registration) → is_busy k xs ≡ false → registration xs ≡ Some r → r.seat ≡ k → ⊥
no_registration xs k r idle held by = not_equal r.seat k (idle_reg xs k r idle held) by

-- what a seat has in flight that an event of it answers, by the kind of event
answers_operation : (head : Head) (xs : List Event) (e : Event) (answer : Answer) (o : Operation) → Comes head xs e → Owners xs →
    answer_by e ≡ Some answer → operation xs ≡ Some o → o.seat ≡ seat_of e → OpEnds head xs o.seat answer
answers_operation head xs (OpEnd seat given) answer o h own is held by = rw (by, ← same_some given answer is) h
answers_operation head xs (RegEnd seat given) answer o h own is held by =
    absurd (own.apart o h.of held h.in_flight (by ∙ sym h.seat_is))
answers_operation head xs (Refused seat errno asked) answer o h own is held by = absurd (no_operation xs seat o h.free.idle held by)
answers_operation head xs (ReadLock seat) answer o h own is held by = absurd (no_operation xs seat o h.free.idle held by)
answers_operation head xs (ReadUnlock seat) answer o h own is held by = absurd (no_operation xs seat o h.free.idle held by)
answers_operation head xs (Armed seat cpu value) answer o h own is held by = absurd (no_operation xs seat o h.free.idle held by)
answers_operation head xs (Shown seat file cpu value) answer o h own is held by = absurd (no_operation xs seat o h.free.idle held by)
answers_operation head xs (Wakeup seat) answer o h own is held by = absurd (no_operation xs seat o h.free.idle held by)
answers_operation head xs e answer o h own is held by = absurd (none_some answer is)

pub holder : (head : Head) (xs : List Event) (seat : ℕ) (answer : Answer) → OpEnds head xs seat answer →
    (o : Operation) × (operation xs ≡ Some o) × (o.seat ≡ seat)
holder head xs seat answer (inl over) = (over.of, over.held, over.seat_is)
holder head xs seat answer (inr cut) = (cut.begins.of, cut.begins.held, cut.begins.seat_is)

answers_registration : (head : Head) (xs : List Event) (e : Event) (answer : Answer) (r : Registration) → Comes head xs e → Owners xs →
    answer_by e ≡ Some answer → registration xs ≡ Some r → r.seat ≡ seat_of e → RegEnds head xs r.seat answer
answers_registration head xs (RegEnd seat given) answer r h own is held by = rw (by, ← same_some given answer is) h
answers_registration head xs (OpEnd seat given) answer r h own is held by =
    let o = holder head xs seat given h in absurd (own.apart o.0 r o.1 held (o.2 ∙ sym by))
answers_registration head xs (Refused seat errno asked) answer r h own is held by = absurd (no_registration xs seat r h.free.idle held by)
answers_registration head xs (ReadLock seat) answer r h own is held by = absurd (no_registration xs seat r h.free.idle held by)
answers_registration head xs (ReadUnlock seat) answer r h own is held by = absurd (no_registration xs seat r h.free.idle held by)
answers_registration head xs (Armed seat cpu value) answer r h own is held by = absurd (no_registration xs seat r h.free.idle held by)
answers_registration head xs (Shown seat file cpu value) answer r h own is held by = absurd (no_registration xs seat r h.free.idle held by)
answers_registration head xs (Wakeup seat) answer r h own is held by = absurd (no_registration xs seat r h.free.idle held by)
answers_registration head xs e answer r h own is held by = absurd (none_some answer is)

own_operation : (xs : List Event) (o : Operation) → operation xs ≡ Some o → own_faults o.seat xs ≡ [] →
    codes_of_faults (operation_entries xs) ≡ []
own_operation xs o held none =
    let none1 = rw (held, eq-eqb o.seat o.seat refl) at none in
    (codes_parts (operation_entries xs) (cond (registers o.seat (registration xs)) (registration_entries xs) []) none1).0

own_registration : (xs : List Event) (r : Registration) → registration xs ≡ Some r → own_faults r.seat xs ≡ [] →
    codes_of_faults (registration_entries xs) ≡ []
own_registration xs r held none =
    let none1 = rw (held, eq-eqb r.seat r.seat refl) at none in
    (codes_parts (cond (holds_map r.seat (operation xs)) (operation_entries xs) []) (registration_entries xs) none1).1

not_registering : (k : ℕ) (r : Option Registration) → ((v : Registration) → r ≡ Some v → k ≡ v.seat → ⊥) → registers k r ≡ false
not_registering k None h = refl
not_registering k (Some r) h = go (eqb r.seat k) refl
  where
    go : (b : Bool) → eqb r.seat k ≡ b → eqb r.seat k ≡ false
    go true e = absurd (h r refl (sym (eqb-true r.seat k e)))
    go false e = e

own_is : (head : Head) (xs : List Event) (o : Operation) → IsLawful head xs → operation xs ≡ Some o →
    (own_faults o.seat xs ≡ []) ↔ AreFaultless xs
own_is head xs o lawful held = (
  λ none.
      let c = clean head xs lawful (own_operation xs o held none) in
      record { ended = no_failures (answers xs) c.walked; in_flight = c.walking },
  λ f.
      let away = not_registering o.seat (registration xs) (λ r q e. (owners head xs lawful).apart o r held q e) in
      rw (held, eq-eqb o.seat o.seat refl, away) (codes_both (operation_entries xs) [] (faultless head xs lawful f) refl),
)

-- a walk ends Ok exactly where none of its entries is a fault
pub walk_ends_ok : (head : Head) (xs : List Event) (seat cpu : ℕ) (answer : Answer) → Comes head xs (WalkEnd seat cpu answer) →
    codes_of_faults (walk_entries cpu xs) ≡ [] → answer ≡ Ok (pos 0)
walk_ends_ok head xs seat cpu answer h none = walked_ok h.whole.outcome (walk_entries cpu xs) answer none h.whole.answered

walk_faultless : (head : Head) (xs : List Event) (seat cpu : ℕ) (answer : Answer) → Comes head xs (WalkEnd seat cpu answer) →
    answer ≡ Ok (pos 0) → codes_of_faults (walk_entries cpu xs) ≡ []
walk_faultless head xs seat cpu answer h q =
    ok_faultless cpu _ _ _ h.whole.crossings h.whole.outcome (walk_entries cpu xs) answer h.whole.shape h.whole.filled h.whole.answered
    (ap is_ok q)

operation_answer : (head : Head) (xs : List Event) (e : Event) (answer : Answer) (o : Operation) → IsLawful head xs → Comes head xs e →
    answer_by e ≡ Some answer → operation xs ≡ Some o → o.seat ≡ seat_of e → own_faults o.seat xs ≡ [] → IsAnswerOf head o xs answer
operation_answer head xs e answer o lawful h is held by none =
    end_answer head xs o o.seat answer (clean head xs lawful (own_operation xs o held none)) held refl
    (answers_operation head xs e answer o h (owners head xs lawful) is held by)

no_fault_at_rest : (head : Head) (xs : List Event) (o : Operation) → IsLawful head xs → operation xs ≡ Some o → is_walking xs ≡ false →
    failures (answers xs) ≡ [] → own_faults o.seat xs ≡ []
no_fault_at_rest head xs o lawful held still none =
    (own_is head xs o lawful held).1
    (record { ended = none; in_flight = λ c w q. absurd (none_some w (sym (walk_none xs still c) ∙ q)) })

no_failure_at_end : (head : Head) (xs : List Event) (o : Operation) (seat : ℕ) (answer : Answer) → IsLawful head xs →
    operation xs ≡ Some o → counts_failures o.op ≡ false → is_ok answer ≡ true → OpEnds head xs seat answer → own_faults o.seat xs ≡ []
no_failure_at_end head xs o seat answer lawful held one ok (inl over) =
    let same : over.of ≡ o = same_some over.of o (sym over.held ∙ held) in
    no_fault_at_rest head xs o lawful held over.no_walk
    (no_failed_walk head xs o answer (few head xs lawful) held o.op refl one (rw same at over.gives) ok)
no_failure_at_end head xs o seat answer lawful held one ok (inr cut) = absurd (not_ok answer LogFull cut.answer_is refl ok)

no_ok_with_faults : (head : Head) (xs : List Event) (e : Event) (answer : Answer) (o : Operation) → IsLawful head xs → Comes head xs e →
    answer_by e ≡ Some answer → operation xs ≡ Some o → o.seat ≡ seat_of e → counts_failures o.op ≡ false → is_ok answer ≡ true →
    own_faults o.seat xs ≡ []
no_ok_with_faults head xs e answer o lawful h is held by one ok =
    no_failure_at_end head xs o o.seat answer lawful held one ok (answers_operation head xs e answer o h (owners head xs lawful) is held by)

same_count : (m n : ℕ) (a : Answer) → a ≡ Ok (pos m) → a ≡ Ok (pos n) → m ≡ n
same_count m n a h k = cc

none_of_length : (xs : List Answer) → length xs ≡ 0 → xs ≡ []
none_of_length [] h = refl
none_of_length (x ∷ xs) h = absurd (omega arith)

end_count : (head : Head) (xs : List Event) (o : Operation) (seat : ℕ) (answer : Answer) → IsLawful head xs → operation xs ≡ Some o →
    o.seat ≡ seat → counts_failures o.op ≡ true → OpEnds head xs seat answer → IsCountOf head o xs answer
end_count head xs o seat answer lawful held by many (inl over) =
    let same : over.of ≡ o = same_some over.of o (sym over.held ∙ held) in
    let is = rw same at over.gives in
    let count = count_is head xs o.before o.op answer many is in
    record {
      one_of = inl count;
      full = (λ q. absurd (ok_full _ answer count q), λ s. absurd (ends_not_short head xs o answer held is s));
      zero = λ q.
          no_fault_at_rest head xs o lawful held over.no_walk
          (none_of_length (failures (answers xs)) (same_count (length (failures (answers xs))) 0 answer count q));
    }
end_count head xs o seat answer lawful held by many (inr cut) = record {
  one_of = inr cut.answer_is;
  full = (λ q. cut_short head xs o seat answer by cut, λ s. cut.answer_is);
  zero = λ q. absurd (ok_full (pos 0) answer q cut.answer_is);
}

operation_count : (head : Head) (xs : List Event) (e : Event) (answer : Answer) (o : Operation) → IsLawful head xs → Comes head xs e →
    answer_by e ≡ Some answer → operation xs ≡ Some o → o.seat ≡ seat_of e → counts_failures o.op ≡ true → IsCountOf head o xs answer
operation_count head xs e answer o lawful h is held by many =
    end_count head xs o o.seat answer lawful held refl many (answers_operation head xs e answer o h (owners head xs lawful) is held by)

-- and the other way: a registration that answers Ok has no fault
made_faultless : (head : Head) (r : Registration) (es : List Event) (answer : Answer) (outcome : Registering) (xs : List Slot) →
    IsRegistrationShape (is_adding r.op) r.state (key_of head r) (processors head r.state r.before) xs outcome → Fill xs es →
    IsRegistrationAnswer outcome (ok_value r.op r.state) es answer → is_ok answer ≡ true → codes_of_faults es ≡ []
made_faultless head r es answer made xs shape filled is ok =
    let f = fill_faults xs es filled in
    f.1
    ∙ no_states (faults es)
    (sym f.0 ∙ shape_failing (is_adding r.op) r.state (key_of head r) (processors head r.state r.before) xs made shape)
made_faultless head r es answer undone xs shape filled is ok = absurd (not_ok answer _ is.2 refl ok)

not_holding : (k : ℕ) (o : Option Operation) → ((p : Operation) → o ≡ Some p → p.seat ≡ k → ⊥) → holds_map k o ≡ false
not_holding k None h = refl
not_holding k (Some p) h = go (eqb p.seat k) refl
  where
    go : (b : Bool) → eqb p.seat k ≡ b → eqb p.seat k ≡ false
    go true e = absurd (h p refl (eqb-true p.seat k e))
    go false e = e

registration_answer : (head : Head) (xs : List Event) (e : Event) (answer : Answer) (r : Registration) → IsLawful head xs →
    Comes head xs e → answer_by e ≡ Some answer → registration xs ≡ Some r → r.seat ≡ seat_of e →
    (own_faults r.seat xs ≡ []) ↔ (answer ≡ Ok (pos (ok_value r.op r.state)))
registration_answer head xs e answer r lawful h is held by =
    let end = answers_registration head xs e answer r h (owners head xs lawful) is held by in
    let same : end.of ≡ r = same_some end.of r (sym end.in_flight ∙ held) in
    let away = not_holding r.seat (operation xs) (λ o q e. (owners head xs lawful).apart o r q held e) in (
      λ none.
          rw (← same)
          (registered_ok end.whole.outcome (ok_value end.of.op end.of.state) (registration_entries xs) answer
          (own_registration xs r held none) end.whole.answered),
      λ q.
          rw (held, eq-eqb r.seat r.seat refl, away)
          (made_faultless head end.of (registration_entries xs) answer end.whole.outcome end.whole.slots end.whole.shape end.whole.filled
          end.whole.answered (ap is_ok q)),
    )

-- an event that answers at once
ok_passed : (head : Head) (xs : List Event) (k : ℕ) (asked wanted : Op) (value : ℤ) (answer : Answer) → Some (Ok value) ≡ Some answer →
    wanted ≡ asked → Passes head xs k asked → (is_ok answer ≡ true) ↔ (refusal head xs k wanted ≡ None)
ok_passed head xs k asked wanted value answer is same p =
    (λ q. rw same p.not_refused, λ q. ap is_ok (sym (same_some (Ok value) answer is)))

refused_not : (head : Head) (xs : List Event) (k errno : ℕ) (asked wanted : Op) (answer : Answer) →
    Some (answers_are.Refused errno) ≡ Some answer → asked ≡ wanted → refusal head xs k asked ≡ Some errno →
    (is_ok answer ≡ true) ↔ (refusal head xs k wanted ≡ None)
refused_not head xs k errno asked wanted answer is same r =
    let given : answers_are.Refused errno ≡ answer = same_some (answers_are.Refused errno) answer is in (
      λ q. absurd (true≢false (sym (ap is_ok given ∙ q))),
      λ q. absurd (none_some errno (sym q ∙ (ap (refusal head xs k) (sym same) ∙ r))),
    )

answer_at_once : (head : Head) (xs : List Event) (e : Event) (answer : Answer) (wanted : Op) → Comes head xs e →
    answer_by e ≡ Some answer → is_busy (seat_of e) xs ≡ false → BelongsTo wanted e →
    (is_ok answer ≡ true) ↔ (refusal head xs (seat_of e) wanted ≡ None)
answer_at_once head xs (Refused seat errno asked) answer wanted h is idle of =
    refused_not head xs seat errno asked wanted answer is of h.refused
answer_at_once head xs (OpEnd seat given) answer wanted h is idle of =
    let o = holder head xs seat given h in absurd (no_operation xs seat o.0 idle o.1 o.2)
answer_at_once head xs (RegEnd seat given) answer wanted h is idle of =
    absurd (no_registration xs seat h.of idle h.in_flight h.seat_is)
answer_at_once head xs (ReadLock seat) answer wanted h is idle of = ok_passed head xs seat _ wanted (pos 0) answer is of h.passes
answer_at_once head xs (ReadUnlock seat) answer wanted h is idle of = ok_passed head xs seat _ wanted (pos 0) answer is of h.passes
answer_at_once head xs (Armed seat cpu value) answer wanted h is idle of = ok_passed head xs seat _ wanted (pos 0) answer is of h.passes
answer_at_once head xs (Shown seat file cpu value) answer wanted h is idle of = ok_passed head xs seat _ wanted value answer is of h.passes
answer_at_once head xs (Wakeup seat) answer wanted h is idle of = ok_passed head xs seat _ wanted (pos 0) answer is of h.passes
answer_at_once head xs e answer wanted h is idle of = absurd (none_some answer is)

pub completes : (head : Head) (events : List Event) → IsLawful head events → Completes head events
completes head events lawful = record {
  own = λ o held. own_is head events o lawful held;
  walks = λ before seat cpu answer cut.
      let l = last head before (WalkEnd seat cpu answer) (rw cut at lawful) in
      (λ none. walk_ends_ok head before seat cpu answer l.1 none, λ q. walk_faultless head before seat cpu answer l.1 q);
  operations = λ before e answer o cut is held by none.
      let l = last head before e (rw cut at lawful) in operation_answer head before e answer o l.0 l.1 is held by none;
  no_ok_with_faults = λ before e answer o cut is held by one ok.
      let l = last head before e (rw cut at lawful) in no_ok_with_faults head before e answer o l.0 l.1 is held by one ok;
  registrations = λ before e answer r cut is held by.
      let l = last head before e (rw cut at lawful) in registration_answer head before e answer r l.0 l.1 is held by;
  at_once = λ before e answer wanted cut is idle of.
      let l = last head before e (rw cut at lawful) in answer_at_once head before e answer wanted l.1 is idle of;
  counted = λ before e answer o cut is held by many.
      let l = last head before e (rw cut at lawful) in operation_count head before e answer o l.0 l.1 is held by many;
}

pub completes_of_front : (head : Head) (front rest : List Event) → IsLawful head (front ++ rest) → Completes head front
completes_of_front head front rest h = completes head front (lawful_front head front rest h)

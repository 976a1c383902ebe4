-- Where a run is over nothing is in flight.
use Rattle.std.proofs.Common.{◌≡◌, ℕ, zero, suc, ◌+◌, ◌<◌, Bool, true, false, eqb, is_none, Option, Some, None, List, [], ◌∷◌, ◌++◌, length, refl, ap, sym, subst, ◌∙◌, inl, inr, arith}
use Rattle.std.specs.Prelude.{slice_get, option_to_list}
use Rattle.std.proofs.lemmas.Bool.{and_parts, eqb-true, eqb-false}
use Rattle.hp_states.proofs.Basics.{none_some, less_or}
use Rattle.hp_event.specs.declared.event.Role.TheVariants.{Client}
use Rattle.hp_event.specs.declared.op.Op.{Op}
use Rattle.hp_event.specs.declared.head.Head.{Head}
use Rattle.hp_model.specs.MapLock.{Operation, operation}
use Rattle.hp_model.specs.Pending.{Pending, IsInFlight}
use Rattle.hp_model.specs.Processors.{present}
use Rattle.hp_model.specs.Registrations.{Registration, registration}
use Rattle.hp_model.specs.ScriptRun.{answered_below, is_over as all_answered}
use Rattle.hp_model.specs.ScriptTurns.{unanswered}
use Rattle.hp_model.specs.Seats.{role_of}
use Rattle.hp_model.proofs.OneNext.{owners}
use Rattle.hp_smt.specs.Run.{SmtState, writes, is_over}
use Rattle.hp_smt.specs.declared.mode.Control.{Control}
use Rattle.hp_smt.specs.declared.setting.Write.{Write}
use Rattle.hp_smt_run.proofs.Beside.{beside, long_beside, un_left, un_last}
use Rattle.hp_smt_run.proofs.Kept.{Kept, op_of_write, IsWriterOf}

answered_at : (ops : List (List Op)) (ns : List ℕ) (n i : ℕ) → answered_below ops ns n ≡ true → i < n → unanswered ops ns i ≡ None
answered_at ops ns zero i h below = absurd (omega (arith, below))
answered_at ops ns (suc n) i h below = go (eqb i n) refl (λ less. answered_at ops ns n i parts.0 less)
  where
    parts : (answered_below ops ns n ≡ true) × (is_none (unanswered ops ns n) ≡ true)
    parts = and_parts (answered_below ops ns n) (is_none (unanswered ops ns n)) h

    none_of : (o : Option Op) → is_none o ≡ true → o ≡ None
    none_of None e = refl
    none_of (Some op) e = absurd (cc)

    go : (b : Bool) → eqb i n ≡ b → (i < n → unanswered ops ns i ≡ None) → unanswered ops ns i ≡ None
    go true e more =
        ap (unanswered ops ns) (eqb-true i n e) ∙ none_of (unanswered ops ns n) parts.1
    go false e more = more (less_or i n below (eqb-false i n e))

no_write_left : (k : ℕ) (slot : Option Control) (o : Option Write) → IsWriterOf k slot o → slot ≡ None → op_of_write o ≡ None
no_write_left k slot None h e = refl
no_write_left k slot (Some w) h e = absurd (none_some w.want (sym e ∙ h.1))

no_flight : (head : Head) (ops : List (List Op)) (want : Control) (at : SmtState) → Kept head ops want at → is_over ops at ≡ true →
    (p : Pending) → role_of p.seat at.run.events ≡ Some Client → IsInFlight at.run.events p → ⊥
no_flight head ops want at k over p client f = go (eqb sits.0 (length ops)) refl
  where
    own : Option Op
    own = op_of_write at.setting.write

    parts : (all_answered ops at.run ≡ true) × (eqb (length at.written) 2 ≡ true)
    parts = and_parts (all_answered ops at.run) (eqb (length at.written) 2) over

    sits : (i : ℕ) × (i < length (beside ops own)) × (p.seat ≡ length (present head) + i)
    sits = k.going.roster.only p.seat client

    asked : unanswered (beside ops own) (at.run.answers ++ 0 ∷ []) sits.0 ≡ Some p.op
    asked = k.going.asked sits.0 p.op (subst (λ z. IsInFlight at.run.events (record { seat = z; op = p.op })) sits.2 f)

    none_own : own ≡ None
    none_own =
        no_write_left (length (present head) + length ops) (slice_get (writes want) (length at.written)) at.setting.write k.writer
        (ap (slice_get (writes want)) (eqb-true (length at.written) 2 parts.1))

    go : (b : Bool) → eqb sits.0 (length ops) ≡ b → ⊥
    go true e =
        let last = un_last ops (option_to_list own) at.run.answers 0 k.long in
        let none : slice_get (option_to_list own) 0 ≡ None = ap (λ o. slice_get (option_to_list o) 0) none_own in
        none_some p.op
        (sym (ap (unanswered (beside ops own) (at.run.answers ++ 0 ∷ [])) (eqb-true sits.0 (length ops) e) ∙ (last ∙ none)) ∙ asked)
    go false e =
        let l = long_beside ops (option_to_list own) in
        let below = sits.1 in
        let less = less_or sits.0 (length ops) (omega (arith, l, below)) (eqb-false sits.0 (length ops) e) in
        none_some p.op
        (sym (un_left ops (option_to_list own) at.run.answers 0 sits.0 k.long less
        ∙ answered_at ops at.run.answers (length ops) sits.0 parts.0 less)
        ∙ asked)

pub no_operation : (head : Head) (ops : List (List Op)) (want : Control) (at : SmtState) → Kept head ops want at → is_over ops at ≡ true →
    operation at.run.events ≡ None
no_operation head ops want at k over = go (operation at.run.events) refl
  where
    go : (o : Option Operation) → operation at.run.events ≡ o → o ≡ None
    go None e = refl
    go (Some o) e =
        absurd
        (no_flight head ops want at k over (record { seat = o.seat; op = o.op })
        ((owners head at.run.events k.going.lawful).op_client o e) (inl (o, e, refl, refl)))

pub no_registration : (head : Head) (ops : List (List Op)) (want : Control) (at : SmtState) → Kept head ops want at → is_over ops at ≡ true →
    registration at.run.events ≡ None
no_registration head ops want at k over = go (registration at.run.events) refl
  where
    go : (r : Option Registration) → registration at.run.events ≡ r → r ≡ None
    go None e = refl
    go (Some r) e =
        absurd
        (no_flight head ops want at k over (record { seat = r.seat; op = r.op })
        ((owners head at.run.events k.going.lawful).reg_client r e) (inr (r, e, refl, refl)))

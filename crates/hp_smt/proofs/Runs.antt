-- A script has one run under SMT control, and that is lawful.
use Rattle.std.proofs.Common.{◌≡◌, ℕ, zero, suc, ◌+◌, ◌-◌, ◌≤◌, Bool, true, false, cond, not, ◌||◌, eqb, ltb, Option, Some, None, List, [], ◌∷◌, ◌++◌, length, length-append, refl, ap, sym, ◌∙◌, subst, arith}
use Rattle.std.specs.Prelude.{fold, pos, slice_get}
use Rattle.std.proofs.lemmas.Bool.{true≢false, ltb-true, ltb-false}
use Rattle.hp_states.specs.declared.limits.TheConstants.{MAX_SEATS}
use Rattle.hp_states.specs.declared.cpu_set.CpuSet.{CpuSet}
use Rattle.hp_event.specs.declared.answer.Answer.{Answer}
use Rattle.hp_event.specs.declared.answer.Answer.TheVariants.{Ok, Refused}
use Rattle.hp_event.specs.declared.op.Op.{Op}
use Rattle.hp_event.specs.declared.head.Head.{Head}
use Rattle.hp_event.specs.declared.event.Event.{Event}
use Rattle.hp_model.specs.Events.{answer_by}
use Rattle.hp_model.specs.Lists.{numbers, is_empty}
use Rattle.hp_model.specs.Heads.{IsHead}
use Rattle.hp_model.specs.Processors.{present}
use Rattle.hp_model.specs.Lawful.{IsLawful}
use Rattle.hp_model.specs.MapLock.{is_map_held}
use Rattle.hp_model.specs.NextEvent.{due_entry, next_event, is_full}
use Rattle.hp_model.specs.ScriptTurns.{RunState, unanswered, after_entry, after_event}
use Rattle.hp_model.specs.Suspend.{is_disabled, frozen}
use Rattle.hp_model.proofs.HeadlineProof.{lawful_more}
use Rattle.hp_model.proofs.RunLemmas.{admissions_lawful}
use Rattle.hp_model.proofs.DueGives.{due_stands}
use Rattle.hp_model.proofs.NextStands.{next_stands}
use Rattle.hp_smt.specs.Modes.{wants_on, ended_mode, own_op}
use Rattle.hp_smt.specs.Run.{SmtState, with_run, without, after_asking, and_event, after_writing, writes, smt_turn, after_smt_rounds, IsSmtRun}
use Rattle.hp_smt.specs.Turns.{is_denied_by}
use Rattle.hp_smt.specs.Writes.{Step, after_own, after_answer, finished, gone_on_with, own_cpu, unless_at_once, at_once, control_step, current, is_done, goes_on, answers, at_rest, mode_before, under, recorded_after, taking_of}
use Rattle.hp_smt.specs.declared.mode.Control.{Control}
use Rattle.hp_smt.specs.declared.setting.Setting.{Setting}
use Rattle.hp_smt.specs.declared.setting.Write.{Write}

-- of two runs neither goes on for longer
same_rounds : (head : Head) (n : ℕ) (actors : List (List Op)) (want : Control) (a b : SmtState) (r : IsSmtRun head n actors want a)
    (s : IsSmtRun head n actors want b) → r.rounds ≡ s.rounds
same_rounds head n actors want a b r s = go (ltb r.rounds s.rounds) (ltb s.rounds r.rounds) refl refl
  where
    go : (x y : Bool) → ltb r.rounds s.rounds ≡ x → ltb s.rounds r.rounds ≡ y → r.rounds ≡ s.rounds
    go true y f g = absurd (true≢false (sym r.over ∙ s.no_sooner r.rounds (ltb-true r.rounds s.rounds f)))
    go false true f g = absurd (true≢false (sym s.over ∙ r.no_sooner s.rounds (ltb-true s.rounds r.rounds g)))
    go false false f g =
        let a = ltb-false r.rounds s.rounds f in let b = ltb-false s.rounds r.rounds g in omega arith

pub one_smt_run : (head : Head) (n : ℕ) (actors : List (List Op)) (want : Control) (a b : SmtState) → IsSmtRun head n actors want a →
    IsSmtRun head n actors want b → a ≡ b
one_smt_run head n actors want a b r s =
    r.state_is ∙ (ap (after_smt_rounds head n actors want) (same_rounds head n actors want a b r s) ∙ sym s.state_is)

-- ---- each turn keeps the journal lawful

entry_lawful : (head : Head) (k : ℕ) (at : RunState) → IsLawful head at.events → (o : Option Event) → due_entry head at.events k ≡ o →
    IsLawful head (after_entry o at).events
entry_lawful head k at h None f = h
entry_lawful head k at h (Some e) f = lawful_more head at.events e h (due_stands head at.events k e f).0

event_lawful : (head : Head) (k i : ℕ) (op : Op) (full : Bool) (at : RunState) → IsLawful head at.events → (o : Option Event) →
    next_event head at.events k op ≡ o → IsLawful head (after_event i o full at).events
event_lawful head k i op full at h None f = h
event_lawful head k i op full at h (Some e) f = lawful_more head at.events e h (next_stands head at.events k op e f).0

asking_lawful : (head : Head) (n k i : ℕ) (o : Option Op) (at : SmtState) → IsLawful head at.run.events →
    IsLawful head (after_asking head n k i o at).run.events
asking_lawful head n k i None at h = h
asking_lawful head n k i (Some op) at h = go (is_denied_by at.run.events n at.setting.mode k op)
  where
    go : (b : Bool) →
        IsLawful head
        (cond b (without k i at)
        (with_run at (after_event i (next_event head at.run.events k op) (is_full head at.run.events k op) at.run))).run.events
    go true = h
    go false = event_lawful head k i op (is_full head at.run.events k op) at.run h (next_event head at.run.events k op) refl

-- a step of a write appends what comes next of its own operation, or nothing
abbrev Appends : Head → List Event → Step → Type 0
Appends head events step = IsLawful head (and_event events step.event)

own_appends : (head : Head) (events : List Event) (recorded : CpuSet) (w : Write) (c : ℕ) → IsLawful head events → (o : Option Event) →
    next_event head events w.seat (own_op w.want c) ≡ o → (full : Bool) → Appends head events (after_own recorded w c o full)
own_appends head events recorded w c h (Some e) f full = go (answer_by e)
  where
    more : IsLawful head (events ++ e ∷ [])
    more = lawful_more head events e h (next_stands head events w.seat (own_op w.want c) e f).0

    done : (a : Answer) (b : Bool) →
        Appends head events
        (cond b (goes_on (Some e) (under (recorded_after w.want recorded c) (taking_of w None)))
        (answers (Some e) (at_rest (mode_before w) recorded) a))
    done a true = more
    done a false = more

    go : (a : Option Answer) → Appends head events (after_answer recorded w c e a)
    go None = more
    go (Some a) = done a (is_done a)
own_appends head events recorded w c h None f true = h
own_appends head events recorded w c h None f false = h

finished_appends : (head : Head) (events : List Event) (recorded : CpuSet) (w : Write) → IsLawful head events → (on : Bool) →
    Appends head events (finished events recorded w on)
finished_appends head events recorded w h true = h
finished_appends head events recorded w h false = by_held (is_map_held events)
  where
    by_frozen : (d : Bool) →
        Appends head events
        (cond d (answers None (at_rest (mode_before w) recorded) (Refused 16)) (answers None (at_rest (ended_mode w.want) recorded) (Ok (pos 0))))
    by_frozen true = h
    by_frozen false = h

    by_held : (b : Bool) →
        Appends head events
        (cond b (goes_on None (under recorded w))
        (cond (is_disabled events || not (is_empty (frozen events))) (answers None (at_rest (mode_before w) recorded) (Refused 16))
        (answers None (at_rest (ended_mode w.want) recorded) (Ok (pos 0)))))
    by_held true = h
    by_held false = by_frozen (is_disabled events || not (is_empty (frozen events)))

gone_appends : (head : Head) (events : List Event) (recorded : CpuSet) (w : Write) → IsLawful head events → (o : Option ℕ) →
    Appends head events (gone_on_with head events recorded w o)
gone_appends head events recorded w h None = finished_appends head events recorded w h (wants_on w.want)
gone_appends head events recorded w h (Some c) =
    own_appends head events recorded w c h (next_event head events w.seat (own_op w.want c)) refl
    (is_full head events w.seat (own_op w.want c))

step_appends : (head : Head) (events : List Event) (n : ℕ) (s : Setting) (k : ℕ) (want : Control) → IsLawful head events →
    Appends head events (control_step head events n s k want)
step_appends head events n s k want h = go (at_once s k want)
  where
    w : Write
    w = current events s k want

    go : (o : Option Answer) →
        Appends head events (unless_at_once s o (gone_on_with head events s.recorded w (own_cpu head events n s.recorded w)))
    go (Some a) = h
    go None = gone_appends head events s.recorded w h (own_cpu head events n s.recorded w)

writing_lawful : (head : Head) (n k : ℕ) (o : Option Control) (at : SmtState) → IsLawful head at.run.events →
    IsLawful head (after_writing head n k o at).run.events
writing_lawful head n k None at h = h
writing_lawful head n k (Some want) at h = step_appends head at.run.events n at.setting k want h

turn_lawful : (head : Head) (n : ℕ) (actors : List (List Op)) (want : Control) (at : SmtState) (k : ℕ) → IsLawful head at.run.events →
    IsLawful head (smt_turn head n actors want at k).run.events
turn_lawful head n actors want at k h = go (ltb k P)
  where
    P : ℕ
    P = length (present head)

    by_seat : (b : Bool) →
        IsLawful head (cond b (after_writing head n k (slice_get (writes want) (length at.written)) at) at).run.events
    by_seat true = writing_lawful head n k (slice_get (writes want) (length at.written)) at h
    by_seat false = h

    by_actor : (b : Bool) →
        IsLawful head
        (cond b (after_asking head n k (k - P) (unanswered actors at.run.answers (k - P)) at)
        (cond (eqb k (P + length actors)) (after_writing head n k (slice_get (writes want) (length at.written)) at) at)).run.events
    by_actor true = asking_lawful head n k (k - P) (unanswered actors at.run.answers (k - P)) at h
    by_actor false = by_seat (eqb k (P + length actors))

    go : (b : Bool) →
        IsLawful head
        (cond b (with_run at (after_entry (due_entry head at.run.events k) at.run))
        (cond (ltb k (P + length actors)) (after_asking head n k (k - P) (unanswered actors at.run.answers (k - P)) at)
        (cond (eqb k (P + length actors)) (after_writing head n k (slice_get (writes want) (length at.written)) at) at))).run.events
    go true = entry_lawful head k at.run h (due_entry head at.run.events k) refl
    go false = by_actor (ltb k (P + length actors))

turns_lawful : (head : Head) (n : ℕ) (actors : List (List Op)) (want : Control) (seats : List ℕ) (at : SmtState) →
    IsLawful head at.run.events → IsLawful head (fold (smt_turn head n actors want) at seats).run.events
turns_lawful head n actors want [] at h = h
turns_lawful head n actors want (k ∷ ks) at h =
    turns_lawful head n actors want ks (smt_turn head n actors want at k) (turn_lawful head n actors want at k h)

rounds_lawful : (head : Head) (n : ℕ) (actors : List (List Op)) (want : Control) → IsHead head →
    length (present head) + length actors + 1 ≤ MAX_SEATS → (r : ℕ) →
    IsLawful head (after_smt_rounds head n actors want r).run.events
rounds_lawful head n actors want hd few zero =
    let l : length (actors ++ [] ∷ []) ≡ length actors + 1 = length-append actors ([] ∷ []) in
    admissions_lawful head (actors ++ [] ∷ []) hd (omega (arith, few, l))
rounds_lawful head n actors want hd few (suc r) =
    turns_lawful head n actors want (numbers (length (present head) + length actors + 1)) (after_smt_rounds head n actors want r)
    (rounds_lawful head n actors want hd few r)

pub smt_run_lawful : (head : Head) (n : ℕ) (actors : List (List Op)) (want : Control) (at : SmtState) → IsHead head →
    length (present head) + length actors + 1 ≤ MAX_SEATS → IsSmtRun head n actors want at → IsLawful head at.run.events
smt_run_lawful head n actors want at hd few run =
    subst (λ (z : SmtState). IsLawful head z.run.events) (sym run.state_is) (rounds_lawful head n actors want hd few run.rounds)

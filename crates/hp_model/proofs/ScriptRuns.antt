-- A script and its schedule have one run, which is lawful.
use Rattle.std.proofs.Common.{◌≡◌, ℕ, zero, suc, ◌+◌, ◌-◌, ◌≤◌, Bool, true, false, cond, ltb, Option, Some, None, List, [], ◌∷◌, length, refl, ap, sym, ◌∙◌, arith}
use Rattle.std.proofs.lemmas.Bool.{true≢false, ltb-true, ltb-false}
use Rattle.hp_states.specs.declared.limits.TheConstants.{MAX_SEATS}
use Rattle.hp_event.specs.declared.op.Op.{Op}
use Rattle.hp_event.specs.declared.head.Head.{Head}
use Rattle.hp_event.specs.declared.event.Event.{Event}
use Rattle.hp_model.specs.Lists.{numbers}
use Rattle.hp_model.specs.Heads.{IsHead}
use Rattle.hp_model.specs.Processors.{present}
use Rattle.hp_model.specs.Lawful.{IsLawful}
use Rattle.hp_model.specs.NextEvent.{due_entry, next_event, is_full}
use Rattle.hp_model.specs.ScriptTurns.{RunState, unanswered, after_entry, after_event, after_asking, turn, after_turns}
use Rattle.hp_model.specs.ScriptRun.{start, after_rounds, IsRun}
use Rattle.hp_model.proofs.HeadlineProof.{lawful_more}
use Rattle.hp_model.proofs.RunLemmas.{admissions_lawful}
use Rattle.hp_model.proofs.DueGives.{due_stands}
use Rattle.hp_model.proofs.NextStands.{next_stands}

-- of two runs neither goes on for longer
same_rounds : (head : Head) (actors : List (List Op)) (schedule : List ℕ) (a b : List Event) (r : IsRun head actors schedule a)
    (s : IsRun head actors schedule b) → r.rounds ≡ s.rounds
same_rounds head actors schedule a b r s = go (ltb r.rounds s.rounds) (ltb s.rounds r.rounds) refl refl
  where
    go : (x y : Bool) → ltb r.rounds s.rounds ≡ x → ltb s.rounds r.rounds ≡ y → r.rounds ≡ s.rounds
    go true y f g = absurd (true≢false (sym r.over ∙ s.no_sooner r.rounds (ltb-true r.rounds s.rounds f)))
    go false true f g = absurd (true≢false (sym s.over ∙ r.no_sooner s.rounds (ltb-true s.rounds r.rounds g)))
    go false false f g =
        let a = ltb-false r.rounds s.rounds f in let b = ltb-false s.rounds r.rounds g in omega arith

pub one_run : (head : Head) (actors : List (List Op)) (schedule : List ℕ) (a b : List Event) → IsRun head actors schedule a →
    IsRun head actors schedule b → a ≡ b
one_run head actors schedule a b r s =
    r.events_are
    ∙ (ap (λ n. (after_rounds head actors schedule n).events) (same_rounds head actors schedule a b r s) ∙ sym s.events_are)

-- a turn keeps a journal lawful
entry_lawful : (head : Head) (k : ℕ) (at : RunState) → IsLawful head at.events → (o : Option Event) → due_entry head at.events k ≡ o →
    IsLawful head (after_entry o at).events
entry_lawful head k at h None f = h
entry_lawful head k at h (Some e) f = lawful_more head at.events e h (due_stands head at.events k e f).0

event_lawful : (head : Head) (k i : ℕ) (op : Op) (full : Bool) (at : RunState) → IsLawful head at.events → (o : Option Event) →
    next_event head at.events k op ≡ o → IsLawful head (after_event i o full at).events
event_lawful head k i op full at h None f = h
event_lawful head k i op full at h (Some e) f = lawful_more head at.events e h (next_stands head at.events k op e f).0

asking_lawful : (head : Head) (k i : ℕ) (o : Option Op) (at : RunState) → IsLawful head at.events →
    IsLawful head (after_asking head k i o at).events
asking_lawful head k i None at h = h
asking_lawful head k i (Some op) at h =
    event_lawful head k i op (is_full head at.events k op) at h (next_event head at.events k op) refl

pub turn_lawful : (head : Head) (actors : List (List Op)) (at : RunState) (k : ℕ) → IsLawful head at.events →
    IsLawful head (turn head actors at k).events
turn_lawful head actors at k h = go (ltb k P)
  where
    P : ℕ
    P = length (present head)

    go : (b : Bool) →
        IsLawful head
        (cond b (after_entry (due_entry head at.events k) at) (after_asking head k (k - P) (unanswered actors at.answers (k - P)) at)).events
    go true = entry_lawful head k at h (due_entry head at.events k) refl
    go false = asking_lawful head k (k - P) (unanswered actors at.answers (k - P)) at h

pub turns_lawful : (head : Head) (actors : List (List Op)) (seats : List ℕ) (at : RunState) → IsLawful head at.events →
    IsLawful head (after_turns head actors at seats).events
unfolding after_turns
turns_lawful head actors [] at h = h
turns_lawful head actors (k ∷ ks) at h = turns_lawful head actors ks (turn head actors at k) (turn_lawful head actors at k h)

rounds_lawful : (head : Head) (actors : List (List Op)) (schedule : List ℕ) (n : ℕ) → IsLawful head (start head actors).events →
    IsLawful head (after_rounds head actors schedule n).events
rounds_lawful head actors schedule zero h = turns_lawful head actors schedule (start head actors) h
rounds_lawful head actors schedule (suc n) h =
    turns_lawful head actors (numbers (length (present head) + length actors)) (after_rounds head actors schedule n)
    (rounds_lawful head actors schedule n h)

pub run_lawful : (head : Head) (actors : List (List Op)) (schedule : List ℕ) (events : List Event) → IsHead head →
    length (present head) + length actors ≤ MAX_SEATS → IsRun head actors schedule events → IsLawful head events
run_lawful head actors schedule events h few r =
    rw r.events_are (rounds_lawful head actors schedule r.rounds (admissions_lawful head actors h few))

-- Each round of a run under SMT control that isn't over gets further, and there is an end to that.
use Rattle.std.proofs.Common.{◌≡◌, ℕ, zero, suc, ◌+◌, ◌-◌, ◌<◌, ◌≤◌, Bool, true, false, cond, eqb, ltb, Option, Some, None, List, [], ◌∷◌, ◌++◌, length, length-append, refl, ap, sym, ◌∙◌, subst, inl, inr, ◌⊎◌, arith}
use Rattle.std.specs.Prelude.{fold, slice_get, sum, get_or}
use Rattle.std.proofs.lemmas.Bool.{true≢false, eqb-true, eqb-false, lt-ltb}
use Rattle.std.proofs.lemmas.List.Sums.{sum_by-set, sum_by-cons, fold-append}
use Rattle.hp_states.proofs.Basics.{less_or}
use Rattle.hp_event.specs.declared.op.Op.{Op}
use Rattle.hp_event.specs.declared.head.Head.{Head}
use Rattle.hp_event.specs.declared.event.Event.{Event}
use Rattle.hp_model.specs.Distance.{distance}
use Rattle.hp_model.specs.Events.{is_answer}
use Rattle.hp_model.specs.Lists.{numbers}
use Rattle.hp_model.specs.NextEvent.{due_entry, next_event, is_full}
use Rattle.hp_model.specs.Processors.{present}
use Rattle.hp_model.specs.ScriptTurns.{RunState, unanswered, counted, after_entry, after_event}
use Rattle.hp_model.proofs.AnswerCounts.{nth_of}
use Rattle.hp_smt.specs.Run.{SmtState, with_run, without, after_asking, and_event, if_answered, after_write, after_writing, writes, smt_turn}
use Rattle.hp_smt.specs.Turns.{is_denied_by}
use Rattle.hp_smt.specs.Writes.{Step, control_step}
use Rattle.hp_smt.specs.declared.mode.Control.{Control}

-- how far a run has come: its events, its answers with those that were denied, and its writes, counted together
abbrev pub reach : SmtState → ℕ
reach at = distance at.run + length at.written

-- ---- no turn takes anything back

sum_more : (i : ℕ) (ns : List ℕ) → sum ns ≤ sum (counted i true ns)
sum_more i [] = omega arith
sum_more zero (n ∷ ns) =
    let a = sum_by-cons (λ x. x) n ns in let b = sum_by-cons (λ x. x) (n + 1) ns in omega (arith, a, b)
sum_more (suc i) (n ∷ ns) =
    let r = sum_more i ns in
    let a = sum_by-cons (λ x. x) n ns in
    let b = sum_by-cons (λ x. x) n (counted i true ns) in
    omega (arith, r, a, b)

sum_most : (i : ℕ) (b : Bool) (ns : List ℕ) → sum ns ≤ sum (counted i b ns)
sum_most i true ns = sum_more i ns
sum_most i false ns = omega arith

pub sum_counted : (i : ℕ) (ns : List ℕ) → i < length ns → sum (counted i true ns) ≡ sum ns + 1
sum_counted i ns h = let s = sum_by-set (λ x. x) ns i (get_or ns i 0 + 1) 0 h in omega (arith, s)

entry_far : (o : Option Event) (at : RunState) → distance at ≤ distance (after_entry o at)
entry_far None at = omega arith
entry_far (Some e) at = let l = length-append at.events (e ∷ []) in omega (arith, l)

event_far : (i : ℕ) (o : Option Event) (full : Bool) (at : RunState) → distance at ≤ distance (after_event i o full at)
event_far i None full at = let s = sum_most i full at.answers in omega (arith, s)
event_far i (Some e) full at =
    let l = length-append at.events (e ∷ []) in let s = sum_most i (is_answer e) at.answers in omega (arith, l, s)

asking_far : (head : Head) (n k i : ℕ) (o : Option Op) (at : SmtState) → reach at ≤ reach (after_asking head n k i o at)
asking_far head n k i None at = omega arith
asking_far head n k i (Some op) at = go (is_denied_by at.run.events n at.setting.mode k op)
  where
    go : (b : Bool) →
        reach at
        ≤ reach
        (cond b (without k i at)
        (with_run at (after_event i (next_event head at.run.events k op) (is_full head at.run.events k op) at.run)))
    go true = let s = sum_more i at.run.answers in omega (arith, s)
    go false =
        let f = event_far i (next_event head at.run.events k op) (is_full head at.run.events k op) at.run in omega (arith, f)

pub and_far : (xs : List Event) (o : Option Event) → length xs ≤ length (and_event xs o)
and_far xs None = omega arith
and_far xs (Some e) = let l = length-append xs (e ∷ []) in omega (arith, l)

write_far : (head : Head) (want : Control) (step : Step) (at : SmtState) → reach at ≤ reach (after_write head want step at)
write_far head want step at =
    let a = and_far at.run.events step.event in
    let l = length-append at.written (if_answered head (and_event at.run.events step.event) want step.answer) in
    omega (arith, a, l)

writing_far : (head : Head) (n k : ℕ) (o : Option Control) (at : SmtState) → reach at ≤ reach (after_writing head n k o at)
writing_far head n k None at = omega arith
writing_far head n k (Some want) at = write_far head want (control_step head at.run.events n at.setting k want) at

turn_far : (head : Head) (n : ℕ) (ops : List (List Op)) (want : Control) (at : SmtState) (k : ℕ) →
    reach at ≤ reach (smt_turn head n ops want at k)
turn_far head n ops want at k = go (ltb k P) (ltb k (P + A)) (eqb k (P + A))
  where
    P : ℕ
    P = length (present head)

    A : ℕ
    A = length ops

    go : (a b c : Bool) →
        reach at
        ≤ reach
        (cond a (with_run at (after_entry (due_entry head at.run.events k) at.run))
        (cond b (after_asking head n k (k - P) (unanswered ops at.run.answers (k - P)) at)
        (cond c (after_writing head n k (slice_get (writes want) (length at.written)) at) at)))
    go true b c = let f = entry_far (due_entry head at.run.events k) at.run in omega (arith, f)
    go false true c = asking_far head n k (k - P) (unanswered ops at.run.answers (k - P)) at
    go false false true = writing_far head n k (slice_get (writes want) (length at.written)) at
    go false false false = omega arith

turns_far : (head : Head) (n : ℕ) (ops : List (List Op)) (want : Control) (ks : List ℕ) (at : SmtState) →
    reach at ≤ reach (fold (smt_turn head n ops want) at ks)
turns_far head n ops want [] at = omega arith
turns_far head n ops want (k ∷ ks) at =
    let a = turn_far head n ops want at k in
    let b = turns_far head n ops want ks (smt_turn head n ops want at k) in
    omega (arith, a, b)

-- ---- a turn of a thread or of an actor gets further, or leaves all as it is

entry_or : (o : Option Event) (at : RunState) → (distance at < distance (after_entry o at)) ⊎ (after_entry o at ≡ at)
entry_or None at = inr refl
entry_or (Some e) at = let l = length-append at.events (e ∷ []) in inl (omega (arith, l))

event_or : (i : ℕ) (o : Option Event) (full : Bool) (at : RunState) → i < length at.answers →
    (distance at < distance (after_event i o full at)) ⊎ (after_event i o full at ≡ at)
event_or i None true at below = let s = sum_counted i at.answers below in inl (omega (arith, s))
event_or i None false at below = inr refl
event_or i (Some e) full at below =
    let l = length-append at.events (e ∷ []) in let s = sum_most i (is_answer e) at.answers in inl (omega (arith, l, s))

with_or : (at : SmtState) (r : RunState) → (distance at.run < distance r) ⊎ (r ≡ at.run) →
    (reach at < reach (with_run at r)) ⊎ (with_run at r ≡ at)
with_or at r (inl h) = inl (omega (arith, h))
with_or at r (inr h) = inr (ap (with_run at) h)

asking_or : (head : Head) (n : ℕ) (ops : List (List Op)) (k i : ℕ) (at : SmtState) → length at.run.answers ≡ length ops →
    (o : Option Op) → unanswered ops at.run.answers i ≡ o →
    (reach at < reach (after_asking head n k i o at)) ⊎ (after_asking head n k i o at ≡ at)
asking_or head n ops k i at long None u = inr refl
asking_or head n ops k i at long (Some op) u = go (is_denied_by at.run.events n at.setting.mode k op)
  where
    below : i < length at.run.answers
    below = let w = (nth_of ops at.run.answers i op u).within in omega (arith, w, long)

    go : (b : Bool) →
        (reach at
        < reach
        (cond b (without k i at)
        (with_run at (after_event i (next_event head at.run.events k op) (is_full head at.run.events k op) at.run))))
        ⊎ (cond b (without k i at)
        (with_run at (after_event i (next_event head at.run.events k op) (is_full head at.run.events k op) at.run))
        ≡ at)
    go true = let s = sum_counted i at.run.answers below in inl (omega (arith, s))
    go false =
        with_or at (after_event i (next_event head at.run.events k op) (is_full head at.run.events k op) at.run)
        (event_or i (next_event head at.run.events k op) (is_full head at.run.events k op) at.run below)

turn_or : (head : Head) (n : ℕ) (ops : List (List Op)) (want : Control) (at : SmtState) (k : ℕ) → length at.run.answers ≡ length ops →
    k < length (present head) + length ops →
    (reach at < reach (smt_turn head n ops want at k)) ⊎ (smt_turn head n ops want at k ≡ at)
turn_or head n ops want at k long below = go (ltb k P) (ltb k (P + A)) (lt-ltb k (P + A) below)
  where
    P : ℕ
    P = length (present head)

    A : ℕ
    A = length ops

    after : (a b : Bool) → SmtState
    after a b =
        cond a (with_run at (after_entry (due_entry head at.run.events k) at.run))
        (cond b (after_asking head n k (k - P) (unanswered ops at.run.answers (k - P)) at)
        (cond (eqb k (P + A)) (after_writing head n k (slice_get (writes want) (length at.written)) at) at))

    go : (a b : Bool) → b ≡ true → (reach at < reach (after a b)) ⊎ (after a b ≡ at)
    go true b e =
        with_or at (after_entry (due_entry head at.run.events k) at.run) (entry_or (due_entry head at.run.events k) at.run)
    go false true e = asking_or head n ops k (k - P) at long (unanswered ops at.run.answers (k - P)) refl
    go false false e = absurd (true≢false (sym e))

-- where one of the first seats gets further, or the one that comes last, all their turns do
pub turns_go : (head : Head) (n : ℕ) (ops : List (List Op)) (want : Control) (m : ℕ) (at : SmtState) (k : ℕ) →
    length at.run.answers ≡ length ops → m ≤ length (present head) + length ops + 1 → k < m →
    reach at < reach (smt_turn head n ops want at k) →
    reach at < reach (fold (smt_turn head n ops want) at (numbers m))
turns_go head n ops want zero at k long few below up = absurd (omega (arith, below))
turns_go head n ops want (suc m) at k long few below up =
    go (eqb k m) refl (λ less. turns_go head n ops want m at k long (omega (arith, few)) less up)
  where
    T : SmtState → ℕ → SmtState
    T = smt_turn head n ops want

    last : fold T at (numbers m ++ m ∷ []) ≡ T (fold T at (numbers m)) m
    last = fold-append T at (numbers m) (m ∷ [])

    still : (j : ℕ) → j ≤ m → (reach at < reach (fold T at (numbers j))) ⊎ (fold T at (numbers j) ≡ at)
    still zero h = inr refl
    still (suc j) h = one (still j (omega (arith, h)))
      where
        pushed : fold T at (numbers j ++ j ∷ []) ≡ T (fold T at (numbers j)) j
        pushed = fold-append T at (numbers j) (j ∷ [])

        one : (reach at < reach (fold T at (numbers j))) ⊎ (fold T at (numbers j) ≡ at) →
            (reach at < reach (fold T at (numbers j ++ j ∷ []))) ⊎ (fold T at (numbers j ++ j ∷ []) ≡ at)
        one (inl q) =
            let f = turn_far head n ops want (fold T at (numbers j)) j in
            inl (subst (λ z. reach at < reach z) (sym pushed) (omega (arith, q, f)))
        one (inr q) =
            let same = pushed ∙ ap (λ z. T z j) q in
            two (turn_or head n ops want at j long (omega (arith, h, few))) same
          where
            two : (reach at < reach (T at j)) ⊎ (T at j ≡ at) → fold T at (numbers j ++ j ∷ []) ≡ T at j →
                (reach at < reach (fold T at (numbers j ++ j ∷ []))) ⊎ (fold T at (numbers j ++ j ∷ []) ≡ at)
            two (inl r) s = inl (subst (λ z. reach at < reach z) (sym s) r)
            two (inr r) s = inr (s ∙ r)

    here : (reach at < reach (fold T at (numbers m))) ⊎ (fold T at (numbers m) ≡ at) → reach at < reach (T at m) →
        reach at < reach (T (fold T at (numbers m)) m)
    here (inl q) r = let f = turn_far head n ops want (fold T at (numbers m)) m in omega (arith, q, f)
    here (inr q) r = subst (λ z. reach at < reach (T z m)) (sym q) r

    go : (b : Bool) → eqb k m ≡ b → (k < m → reach at < reach (fold T at (numbers m))) →
        reach at < reach (fold T at (numbers m ++ m ∷ []))
    go true e more =
        let same : k ≡ m = eqb-true k m e in
        subst (λ z. reach at < reach z) (sym last)
        (here (still m (omega arith)) (subst (λ z. reach at < reach (T at z)) same up))
    go false e more =
        let before = more (less_or k m below (eqb-false k m e)) in
        let f = turn_far head n ops want (fold T at (numbers m)) m in
        subst (λ z. reach at < reach z) (sym last) (omega (arith, before, f))

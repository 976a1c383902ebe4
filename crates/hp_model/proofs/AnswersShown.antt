-- How many operations of an actor are answered is what the journal shows of its seat, and its answers without an event.
use Rattle.std.proofs.Common.{◌≡◌, ℕ, ◌+◌, ◌-◌, ◌<◌, ◌≤◌, Bool, true, false, cond, ◌&&◌, eqb, ltb, Option, Some, None, List, [], ◌∷◌, ◌++◌, length, get_or, refl, ap, sym, ◌∙◌, subst, inl, inr, arith}
use Rattle.std.specs.Prelude.{count_by}
use Rattle.std.proofs.lemmas.Bool.{true≢false, false≢true, eqb-true, eq-eqb, and_parts, ltb-false, le-ltb}
use Rattle.std.proofs.lemmas.Bool.Decides.{nat_tests}
use Rattle.std.proofs.lemmas.List.Sums.{sum_by_push, sum_by-cons}
use Rattle.hp_event.specs.declared.op.Op.{Op}
use Rattle.hp_event.specs.declared.head.Head.{Head}
use Rattle.hp_event.specs.declared.event.Event.{Event}
use Rattle.hp_event.specs.declared.event.Event.TheVariants.{Admit}
use Rattle.hp_model.specs.Events.{seat_of, is_answer, answered}
use Rattle.hp_model.specs.Processors.{present}
use Rattle.hp_model.specs.Full.{IsFull}
use Rattle.hp_model.specs.Pending.{IsAllowed}
use Rattle.hp_model.specs.Admissions.{admissions}
use Rattle.hp_model.specs.Tasks.{Task, entries, operation, nothing, task_of, IsFor}
use Rattle.hp_model.specs.Scripts.{IsScript}
use Rattle.hp_model.specs.NextEvent.{is_full}
use Rattle.hp_model.specs.ScriptTurns.{RunState, unanswered, counted, turn, after_turns}
use Rattle.hp_model.specs.ScriptRun.{start}
use Rattle.hp_model.specs.TurnMakes.{task, CanTake, LacksRoom, TurnMakes}
use Rattle.hp_model.specs.WithoutEvent.{is_without_room, answers_without_event, answered_without_event}
use Rattle.hp_model.proofs.Roster.{AreAdmits, admissions_are}
use Rattle.hp_model.proofs.NextGives.{full_only, full_exactly}
use Rattle.hp_model.proofs.FindsOne.{finds_one}
use Rattle.hp_model.proofs.AnswerCounts.{counted_other, counted_same}
use Rattle.hp_model.proofs.Going.{IsGoing, asks_allowed, turn_going, start_going, no_answer, none_counted}
use Rattle.hp_model.proofs.TurnsMake.{turn_makes}

count_push : (p : Event → Bool) (xs : List Event) (e : Event) → count_by p (xs ++ e ∷ []) ≡ count_by p xs + cond (p e) 1 0
count_push p xs e = sum_by_push (λ e. cond (p e) 1 0) xs e

answered_push : (k : ℕ) (xs : List Event) (e : Event) →
    answered k (xs ++ e ∷ []) ≡ answered k xs + cond (is_answer e && eqb (seat_of e) k) 1 0
answered_push k xs e = count_push (λ e. is_answer e && eqb (seat_of e) k) xs e

-- an event more is counted for its actor exactly where it answers
counts_more : (head : Head) (actors : List (List Op)) (at : RunState) (k : ℕ) (e : Event) (without j : ℕ) →
    IsGoing head actors at → j < length actors →
    get_or at.answers j 0 ≡ answered (length (present head) + j) at.events + without → CanTake head actors at k e →
    get_or (counted (k - length (present head)) (is_answer e) at.answers) j 0
    ≡ answered (length (present head) + j) (at.events ++ e ∷ []) + without
counts_more head actors at k e without j g h old c = go j h old (is_answer e) refl
  where
    P : ℕ
    P = length (present head)

    above : is_answer e ≡ true → (b : Bool) → ltb k P ≡ b → ltb k P ≡ false
    above a false f = f
    above a true f =
        let named = ap (λ z. cond z entries (task_of (unanswered actors at.answers (k - P)))) f in
        absurd (true≢false (sym a ∙ no_answer e (subst (λ z. IsFor z e) named c.is_for)))

    counts : (j : ℕ) → j < length actors → get_or at.answers j 0 ≡ answered (P + j) at.events + without → is_answer e ≡ true →
        P ≤ k → (m : Bool) → eqb j (k - P) ≡ m →
        get_or (counted (k - P) true at.answers) j 0 ≡ answered (P + j) (at.events ++ e ∷ []) + without
    counts j h old a l true m =
        let same : j ≡ k - P = eqb-true j (k - P) m in
        let seat : seat_of e ≡ P + j = c.by ∙ omega (arith, same, l) in
        let long : k - P < length at.answers = let q = g.long in omega (arith, same, h, q) in
        let self = eq-eqb (seat_of e) (P + j) seat in
        let new : get_or (counted (k - P) true at.answers) j 0 ≡ get_or at.answers j 0 + 1 =
        subst (λ z. get_or (counted (k - P) true at.answers) z 0 ≡ get_or at.answers z 0 + 1) (sym same) (counted_same (k - P) at.answers long) in
        let more : answered (P + j) (at.events ++ e ∷ []) ≡ answered (P + j) at.events + 1 =
        answered_push (P + j) at.events e ∙ ap (λ z. answered (P + j) at.events + z) (both (is_answer e) (eqb (seat_of e) (P + j)) a self) in
        omega (arith, old, new, more)
      where
        both : (x y : Bool) → x ≡ true → y ≡ true → ◌≡◌ {A = ℕ} (cond (x && y) 1 0) 1
        both x y p q = rw (p, q) refl
    counts j h old a l false m =
        let other : eqb (seat_of e) (P + j) ≡ false = ap (λ z. eqb z (P + j)) c.by ∙ apart j l m in
        let new = counted_other (k - P) j true at.answers (λ s. true≢false (sym (eq-eqb j (k - P) s) ∙ m)) in
        let more : answered (P + j) (at.events ++ e ∷ []) ≡ answered (P + j) at.events + 0 =
        answered_push (P + j) at.events e ∙ ap (λ z. answered (P + j) at.events + z) (none (is_answer e) (eqb (seat_of e) (P + j)) other) in
        omega (arith, old, new, more)
      where
        none : (x y : Bool) → y ≡ false → ◌≡◌ {A = ℕ} (cond (x && y) 1 0) 0
        none true y q = rw q refl
        none false y q = refl

        apart : (j : ℕ) → P ≤ k → eqb j (k - P) ≡ false → eqb k (P + j) ≡ false
        apart j l m = grind (arith, nat_tests)

    go : (j : ℕ) → j < length actors → get_or at.answers j 0 ≡ answered (P + j) at.events + without → (a : Bool) → is_answer e ≡ a →
        get_or (counted (k - P) (is_answer e) at.answers) j 0 ≡ answered (P + j) (at.events ++ e ∷ []) + without
    go j h old true a =
        ap (λ z. get_or (counted (k - P) z at.answers) j 0) a
        ∙ counts j h old a (ltb-false k P (above a (ltb k P) refl)) (eqb j (k - P)) refl
    go j h old false a =
        let more : answered (P + j) (at.events ++ e ∷ []) ≡ answered (P + j) at.events + 0 =
        answered_push (P + j) at.events e ∙ ap (λ z. answered (P + j) at.events + cond (z && eqb (seat_of e) (P + j)) 1 0) a in
        ap (λ z. get_or (counted (k - P) z at.answers) j 0) a ∙ omega (arith, old, more)

-- at the start nothing is answered
admits_answer : (k : ℕ) (es : List Event) → AreAdmits es → ◌≡◌ {A = ℕ} (answered k es) 0
admits_answer k [] h = refl
admits_answer k (Admit seat role ∷ es) h =
    let r = admits_answer k es h in
    let c = sum_by-cons (λ e. cond (is_answer e && eqb (seat_of e) k) 1 0) (Admit seat role) es in
    omega (arith, r, c)
admits_answer k (e ∷ es) h = elim h [ ]

none_answered : (head : Head) (actors : List (List Op)) (k : ℕ) → ◌≡◌ {A = ℕ} (answered k (admissions head actors)) 0
none_answered head actors k = admits_answer k (admissions head actors) (admissions_are head actors)

-- a turn that answers an operation of an actor without an event
record AnswersSo (head : Head) (actors : List (List Op)) (at : RunState) (k i : ℕ) : Type 0 where
  pub seat_is : k ≡ length (present head) + i
  pub op : Op
  pub asked : unanswered actors at.answers i ≡ Some op
  pub full : is_full head at.events k op ≡ true

answers_so : (head : Head) (actors : List (List Op)) (at : RunState) (k i : ℕ) → answers_without_event head actors at k i ≡ true →
    AnswersSo head actors at k i
answers_so head actors at k i h =
    let p = and_parts (eqb k (length (present head) + i)) (is_without_room head at.events k (unanswered actors at.answers i)) h in
    go (unanswered actors at.answers i) refl p.1 (eqb-true k (length (present head) + i) p.0)
  where
    go : (o : Option Op) → unanswered actors at.answers i ≡ o → is_without_room head at.events k o ≡ true →
        k ≡ length (present head) + i → AnswersSo head actors at k i
    go None u f s = absurd (false≢true f)
    go (Some op) u f s = record { seat_is = s; op = op; asked = u; full = f }

so_answers : (head : Head) (actors : List (List Op)) (at : RunState) (k i : ℕ) (op : Op) → k ≡ length (present head) + i →
    unanswered actors at.answers i ≡ Some op → is_full head at.events k op ≡ true → answers_without_event head actors at k i ≡ true
so_answers head actors at k i op s u f =
    both (eqb k (length (present head) + i)) (is_without_room head at.events k (unanswered actors at.answers i))
    (eq-eqb k (length (present head) + i) s) (ap (λ z. is_without_room head at.events k z) u ∙ f)
  where
    both : (x y : Bool) → x ≡ true → y ≡ true → (x && y) ≡ true
    both x y p q = rw (p, q) refl

task_is : (head : Head) (actors : List (List Op)) (at : RunState) (k i : ℕ) (op : Op) → k ≡ length (present head) + i →
    unanswered actors at.answers i ≡ Some op → task head actors at k ≡ operation op
task_is head actors at k i op s u =
    ap (λ z. cond z entries (task_of (unanswered actors at.answers (k - length (present head))))) (le-ltb k (length (present head)) (omega (arith, s)))
    ∙ (ap (λ z. task_of (unanswered actors at.answers z)) (less s) ∙ ap task_of u)
  where
    less : k ≡ length (present head) + i → k - length (present head) ≡ i
    less s = omega (arith, s)

-- a turn counts what it answers, by an event or without one
step_counts : (head : Head) (actors : List (List Op)) (at : RunState) (k i without : ℕ) → IsScript head actors →
    IsGoing head actors at → i < length actors →
    get_or at.answers i 0 ≡ answered (length (present head) + i) at.events + without →
    get_or (turn head actors at k).answers i 0
    ≡ answered (length (present head) + i) (turn head actors at k).events
    + (without + cond (answers_without_event head actors at k i) 1 0)
step_counts head actors at k i without s g h old =
    go (answers_without_event head actors at k i) refl (turn_makes head actors at k s g)
  where
    P : ℕ
    P = length (present head)

    Counts : (more : Bool) → RunState → Type 0
    Counts more after = get_or after.answers i 0 ≡ answered (P + i) after.events + (without + cond more 1 0)

    allowed : (a : AnswersSo head actors at k i) → IsAllowed head at.events (record { seat = k; op = a.op })
    allowed a = asks_allowed head actors at.events at.answers k i a.op s g a.seat_is a.asked

    full : (a : AnswersSo head actors at k i) → IsFull head at.events k a.op
    full a = full_only head at.events k a.op a.full

    appended : (more : Bool) → answers_without_event head actors at k i ≡ more → (e : Event) → CanTake head actors at k e →
        Counts more (record { events = at.events ++ e ∷ []; answers = counted (k - P) (is_answer e) at.answers })
    appended true m e c =
        let a = answers_so head actors at k i m in
        let of = subst (λ z. IsFor z e) (task_is head actors at k i a.op a.seat_is a.asked) c.is_for in
        absurd ((finds_one head at.events (record { seat = k; op = a.op }) g.lawful (allowed a)).event_full
        (e, c.stands, c.by, of) (full a))
    appended false m e c = let n = counts_more head actors at k e without i g h old c in omega (arith, n)

    lacking : (t : Task) → task head actors at k ≡ t → LacksRoom head at k t → (op : Op) × (t ≡ operation op) × IsFull head at.events k op
    lacking entries q l = elim l [ ]
    lacking (operation op) q l = (op, refl, l)
    lacking nothing q l = elim l [ ]

    -- which operation it is
    named : (b : Bool) → ltb k P ≡ b → (o : Option Op) → unanswered actors at.answers (k - P) ≡ o → (op : Op) →
        cond b entries (task_of o) ≡ operation op → (P ≤ k) × (unanswered actors at.answers (k - P) ≡ Some op)
    named true f o u op q = cc
    named false f None u op q = cc
    named false f (Some x) u op q = (ltb-false k P f, u ∙ cc)

    answered_full : (more : Bool) → answers_without_event head actors at k i ≡ more →
        (op : Op) → IsFull head at.events k op → (P ≤ k) × (unanswered actors at.answers (k - P) ≡ Some op) →
        (b : Bool) → eqb i (k - P) ≡ b →
        Counts more (record { events = at.events; answers = counted (k - P) true at.answers })
    answered_full true m op f n true e =
        let same : i ≡ k - P = eqb-true i (k - P) e in
        let long : k - P < length at.answers = let q = g.long in omega (arith, same, h, q) in
        let new : get_or (counted (k - P) true at.answers) i 0 ≡ get_or at.answers i 0 + 1 =
        subst (λ z. get_or (counted (k - P) true at.answers) z 0 ≡ get_or at.answers z 0 + 1) (sym same) (counted_same (k - P) at.answers long) in
        omega (arith, new, old)
    answered_full true m op f n false e =
        let a = answers_so head actors at k i m in
        let q = a.seat_is in
        absurd (false≢true (sym e ∙ eq-eqb i (k - P) (omega (arith, q))))
    answered_full false m op f n true e =
        let same : i ≡ k - P = eqb-true i (k - P) e in
        let l = n.0 in
        let seat : k ≡ P + i = omega (arith, same, l) in
        let u : unanswered actors at.answers i ≡ Some op = ap (λ z. unanswered actors at.answers z) same ∙ n.1 in
        let a = asks_allowed head actors at.events at.answers k i op s g seat u in
        absurd (false≢true (sym m ∙ so_answers head actors at k i op seat u ((full_exactly head at.events (record { seat = k; op = op }) g.lawful a).1 f)))
    answered_full false m op f n false e =
        let new = counted_other (k - P) i true at.answers (λ q. true≢false (sym (eq-eqb i (k - P) q) ∙ e)) in omega (arith, new, old)

    stays : (more : Bool) → answers_without_event head actors at k i ≡ more → (LacksRoom head at k (task head actors at k) → ⊥) →
        Counts more at
    stays true m never =
        let a = answers_so head actors at k i m in
        absurd (never (subst (λ z. LacksRoom head at k z) (sym (task_is head actors at k i a.op a.seat_is a.asked)) (full a)))
    stays false m never = omega (arith, old)

    go : (more : Bool) → answers_without_event head actors at k i ≡ more → TurnMakes head actors at k (turn head actors at k) →
        Counts (answers_without_event head actors at k i) (turn head actors at k)
    go more m (inl t) =
        subst (λ z. Counts z (turn head actors at k)) (sym m) (subst (Counts more) (sym t.2) (appended more m t.0 t.1))
    go more m (inr (inl t)) =
        let l = lacking (task head actors at k) refl t.0 in
        subst (λ z. Counts z (turn head actors at k)) (sym m)
        (subst (Counts more) (sym t.1)
        (answered_full more m l.0 l.2 (named (ltb k P) refl (unanswered actors at.answers (k - P)) refl l.0 l.1) (eqb i (k - P)) refl))
    go more m (inr (inr t)) =
        subst (λ z. Counts z (turn head actors at k)) (sym m) (subst (Counts more) (sym t.2) (stays more m t.1))

turns_count : (head : Head) (actors : List (List Op)) (ks : List ℕ) (at : RunState) (i without : ℕ) → IsScript head actors →
    IsGoing head actors at → i < length actors →
    get_or at.answers i 0 ≡ answered (length (present head) + i) at.events + without →
    get_or (after_turns head actors at ks).answers i 0
    ≡ answered (length (present head) + i) (after_turns head actors at ks).events
    + (without + answered_without_event head actors at ks i)
unfolding after_turns answered_without_event
turns_count head actors [] at i without s g h old = omega (arith, old)
turns_count head actors (k ∷ ks) at i without s g h old =
    let one = step_counts head actors at k i without s g h old in
    let rest = turns_count head actors ks (turn head actors at k) i (without + cond (answers_without_event head actors at k i) 1 0) s
    (turn_going head actors at k s g) h one in
    omega (arith, rest)

pub answers_shown : (head : Head) (actors : List (List Op)) (seats : List ℕ) (i : ℕ) → IsScript head actors → i < length actors →
    get_or (after_turns head actors (start head actors) seats).answers i 0
    ≡ answered (length (present head) + i) (after_turns head actors (start head actors) seats).events
    + answered_without_event head actors (start head actors) seats i
answers_shown head actors seats i s h =
    let n = none_counted (length actors) i in
    let m = none_answered head actors (length (present head) + i) in
    let all = turns_count head actors seats (start head actors) i 0 s (start_going head actors s) h (omega (arith, n, m)) in
    omega (arith, all)

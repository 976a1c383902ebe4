-- The closing rounds of a script end: each one in which an operation isn't answered makes an event or answers, and there is room for
-- so many of either.
use Rattle.std.proofs.Common.{◌≡◌, ℕ, zero, suc, ◌+◌, ◌-◌, ◌<◌, ◌≤◌, Bool, true, false, cond, eqb, ltb, Option, Some, None, List, [], ◌∷◌, length, get_or, length-append, refl, sym, ◌∙◌, subst, inl, inr, ◌⊎◌, arith}
use Rattle.std.specs.Prelude.{sum_by, sum}
use Rattle.std.proofs.lemmas.Bool.{true≢false, eqb-true}
use Rattle.std.proofs.lemmas.Bool.Decides.{nat_tests}
use Rattle.std.proofs.lemmas.List.Sums.{sum_by-set, sum_by-cons}
use Rattle.hp_states.specs.declared.limits.TheConstants.{MAX_EVENTS}
use Rattle.hp_event.specs.declared.op.Op.{Op}
use Rattle.hp_event.specs.declared.head.Head.{Head}
use Rattle.hp_event.specs.declared.event.Event.{Event}
use Rattle.hp_model.specs.Lists.{occurs, numbers}
use Rattle.hp_model.specs.Events.{is_answer}
use Rattle.hp_model.specs.Processors.{present}
use Rattle.hp_model.specs.Tasks.{Task, entries, operation, nothing, task_of, IsFor}
use Rattle.hp_model.specs.Scripts.{IsScript}
use Rattle.hp_model.specs.ScriptTurns.{RunState, unanswered, counted, turn, after_turns}
use Rattle.hp_model.specs.ScriptRun.{start, is_over, after_round, after_rounds, IsRun}
use Rattle.hp_model.specs.Distance.{distance}
use Rattle.hp_model.specs.TurnMakes.{task, CanTake, LacksRoom, Stays, TurnMakes}
use Rattle.hp_model.proofs.RoomKept.{promises_fit}
use Rattle.hp_model.proofs.ListLemmas.{occurs-numbers}
use Rattle.hp_model.proofs.AnswerCounts.{nth_of}
use Rattle.hp_model.proofs.Going.{Going, IsGoing, turn_going, turns_going, start_going, no_answer}
use Rattle.hp_model.proofs.TurnsMake.{turn_makes}
use Rattle.hp_model.proofs.MovesOn.{moves}

-- what an answer adds
sum_counted : (i : ℕ) (ns : List ℕ) → i < length ns → sum (counted i true ns) ≡ sum ns + 1
sum_counted i ns h =
    let s = sum_by-set (λ x. x) ns i (get_or ns i 0 + 1) 0 h in omega (arith, s)

sum_most : (i : ℕ) (b : Bool) (ns : List ℕ) → (b ≡ true → i < length ns) → sum ns ≤ sum (counted i b ns)
sum_most i true ns h = let s = sum_counted i ns (h refl) in omega (arith, s)
sum_most i false ns h = omega arith

-- an actor whose operation a turn is for has a count
of_task : (head : Head) (actors : List (List Op)) (xs : List Event) (ns : List ℕ) (i : ℕ) (op : Op) → Going head actors xs ns →
    unanswered actors ns i ≡ Some op → i < length ns
of_task head actors xs ns i op g u = let n = nth_of actors ns i op u in let l = g.long in let w = n.within in omega (arith, l, w)

asked_task : (o : Option Op) (op : Op) → task_of o ≡ operation op → o ≡ Some op
asked_task None op h = absurd (differ h)
  where
    differ : nothing ≡ operation op → ⊥
    differ q = cc
asked_task (Some other) op h = same h
  where
    same : operation other ≡ operation op → Some other ≡ Some op
    same q = cc

pub asked_by : (head : Head) (actors : List (List Op)) (at : RunState) (k : ℕ) (op : Op) →
    task head actors at k ≡ operation op → unanswered actors at.answers (k - length (present head)) ≡ Some op
asked_by head actors at k op t = go (ltb k (length (present head))) t
  where
    differ : entries ≡ operation op → ⊥
    differ q = cc

    u : Option Op
    u = unanswered actors at.answers (k - length (present head))

    go : (b : Bool) → cond b entries (task_of u) ≡ operation op → u ≡ Some op
    go true h = absurd (differ h)
    go false h = asked_task u op h

task_counts : (head : Head) (actors : List (List Op)) (at : RunState) (k : ℕ) (op : Op) → IsGoing head actors at →
    task head actors at k ≡ operation op → k - length (present head) < length at.answers
task_counts head actors at k op g t =
    of_task head actors at.events at.answers (k - length (present head)) op g (asked_by head actors at k op t)

answer_counts : (head : Head) (actors : List (List Op)) (at : RunState) (k : ℕ) (e : Event) → IsGoing head actors at →
    CanTake head actors at k e → is_answer e ≡ true → k - length (present head) < length at.answers
answer_counts head actors at k e g c a = go (task head actors at k) refl c.is_for
  where
    go : (t : Task) → task head actors at k ≡ t → IsFor t e → k - length (present head) < length at.answers
    go entries f h = absurd (true≢false (sym a ∙ no_answer e h))
    go (operation op) f h = task_counts head actors at k op g f
    go nothing f h = elim h [ ]

lacks_counts : (head : Head) (actors : List (List Op)) (at : RunState) (k : ℕ) → IsGoing head actors at →
    LacksRoom head at k (task head actors at k) → k - length (present head) < length at.answers
lacks_counts head actors at k g l = go (task head actors at k) refl l
  where
    go : (t : Task) → task head actors at k ≡ t → LacksRoom head at k t → k - length (present head) < length at.answers
    go entries f h = elim h [ ]
    go (operation op) f h = task_counts head actors at k op g f
    go nothing f h = elim h [ ]

-- a turn goes on, or leaves all as it is
pub goes_on : (head : Head) (actors : List (List Op)) (at after : RunState) (k : ℕ) → IsGoing head actors at →
    TurnMakes head actors at k after → (distance at < distance after) ⊎ Stays head actors at k after
goes_on head actors at after k g (inl m) =
    let l = length-append at.events (m.0 ∷ []) in
    let c = sum_most (k - length (present head)) (is_answer m.0) at.answers (answer_counts head actors at k m.0 g m.1) in
    inl (subst (λ z. distance at < distance z) (sym m.2) (omega (arith, l, c)))
goes_on head actors at after k g (inr (inl m)) =
    let c = sum_counted (k - length (present head)) at.answers (lacks_counts head actors at k g m.0) in
    inl (subst (λ z. distance at < distance z) (sym m.1) (omega (arith, c)))
goes_on head actors at after k g (inr (inr m)) = inr m

turn_far : (head : Head) (actors : List (List Op)) (at : RunState) (k : ℕ) → IsScript head actors → IsGoing head actors at →
    distance at ≤ distance (turn head actors at k)
turn_far head actors at k s g = go (goes_on head actors at (turn head actors at k) k g (turn_makes head actors at k s g))
  where
    go : (distance at < distance (turn head actors at k)) ⊎ Stays head actors at k (turn head actors at k) →
        distance at ≤ distance (turn head actors at k)
    go (inl h) = omega (arith, h)
    go (inr h) = subst (λ z. distance at ≤ distance z) (sym h.2) (omega arith)

turns_far : (head : Head) (actors : List (List Op)) (ks : List ℕ) (at : RunState) → IsScript head actors → IsGoing head actors at →
    distance at ≤ distance (after_turns head actors at ks)
unfolding after_turns
turns_far head actors [] at s g = omega arith
turns_far head actors (k ∷ ks) at s g =
    let a = turn_far head actors at k s g in
    let b = turns_far head actors ks (turn head actors at k) s (turn_going head actors at k s g) in
    omega (arith, a, b)

-- what a seat's turn can do
abbrev Does : Head → (actors : List (List Op)) → RunState → (seat : ℕ) → Type 0
Does head actors at k = ((e : Event) × CanTake head actors at k e) ⊎ LacksRoom head at k (task head actors at k)

not_still : (head : Head) (actors : List (List Op)) (at after : RunState) (k : ℕ) → Does head actors at k →
    Stays head actors at k after → ⊥
not_still head actors at after k (inl c) h = h.0 c.0 c.1
not_still head actors at after k (inr l) h = h.1 l

-- where one of some seats can do something, their turns go on
turns_go : (head : Head) (actors : List (List Op)) (ks : List ℕ) (at : RunState) (k : ℕ) → IsScript head actors →
    IsGoing head actors at → 0 < occurs k ks → Does head actors at k → distance at < distance (after_turns head actors at ks)
unfolding after_turns
turns_go head actors [] at k s g i d = absurd (omega (arith, i))
turns_go head actors (j ∷ js) at k s g i d =
    go (goes_on head actors at (turn head actors at j) j g (turn_makes head actors at j s g))
    (turns_far head actors js (turn head actors at j) s (turn_going head actors at j s g))
    (λ n. turns_go head actors js at k s g n d)
  where
    still : (b : Bool) → eqb j k ≡ b → Stays head actors at j (turn head actors at j) → 0 < cond b 1 0 + occurs k js → 0 < occurs k js
    still true e h n =
        let same = eqb-true j k e in
        absurd (not_still head actors at (turn head actors at j) j (subst (λ z. Does head actors at z) (sym same) d) h)
    still false e h n = omega (arith, n)

    go : (distance at < distance (turn head actors at j)) ⊎ Stays head actors at j (turn head actors at j) →
        distance (turn head actors at j) ≤ distance (after_turns head actors (turn head actors at j) js) →
        (0 < occurs k js → distance at < distance (after_turns head actors at js)) →
        distance at < distance (after_turns head actors (turn head actors at j) js)
    go (inl h) far r = omega (arith, h, far)
    go (inr h) far r =
        subst (λ z. distance at < distance (after_turns head actors z js)) (sym h.2) (r (still (eqb j k) refl h i))

pub in_numbers : (k n : ℕ) → k < n → 0 < occurs k (numbers n)
in_numbers k n h = rw (occurs-numbers k n) (go n h)
  where
    go : (n : ℕ) → k < n → 0 < cond (ltb k n) 1 0
    go n h = grind (arith, nat_tests)

pub round_goes : (head : Head) (actors : List (List Op)) (at : RunState) → IsScript head actors → IsGoing head actors at →
    is_over actors at ≡ false → distance at < distance (after_round head actors at)
round_goes head actors at s g over =
    let m = moves head actors at s g over in
    turns_go head actors (numbers (length (present head) + length actors)) at m.seat s g (in_numbers m.seat _ m.is_seat) m.does

pub turns_go_on : (head : Head) (actors : List (List Op)) (seats : List ℕ) → IsScript head actors →
    is_over actors (after_turns head actors (start head actors) seats) ≡ false →
    distance (after_turns head actors (start head actors) seats)
    < distance (after_round head actors (after_turns head actors (start head actors) seats))
turns_go_on head actors seats s over =
    round_goes head actors (after_turns head actors (start head actors) seats) s
    (turns_going head actors seats (start head actors) s (start_going head actors s)) over

-- there is room for so many
sum_within : (ns : List ℕ) (actors : List (List Op)) → length ns ≡ length actors →
    ((i : ℕ) → get_or ns i 0 ≤ length (get_or actors i [])) → sum ns ≤ sum_by (λ ops. length ops) actors
sum_within [] actors h w = omega arith
sum_within (n ∷ ns) [] h w = absurd (omega (arith, h))
sum_within (n ∷ ns) (ops ∷ more) h w =
    let r = sum_within ns more (omega (arith, h)) (λ i. w (suc i)) in
    let a = sum_by-cons (λ x. x) n ns in
    let b = sum_by-cons (λ ops. length ops) ops more in
    let c : n ≤ length ops = w 0 in
    omega (arith, r, a, b, c)

far_enough : (head : Head) (actors : List (List Op)) (at : RunState) → IsGoing head actors at →
    distance at ≤ MAX_EVENTS + sum_by (λ ops. length ops) actors
far_enough head actors at g =
    let a = promises_fit head at.events g.lawful in
    let b = sum_within at.answers actors g.long g.within in
    omega (arith, a, b)

pub turns_bounded : (head : Head) (actors : List (List Op)) (seats : List ℕ) → IsScript head actors →
    distance (after_turns head actors (start head actors) seats) ≤ MAX_EVENTS + sum_by (λ ops. length ops) actors
turns_bounded head actors seats s =
    far_enough head actors (after_turns head actors (start head actors) seats)
    (turns_going head actors seats (start head actors) s (start_going head actors s))

pub rounds_going : (head : Head) (actors : List (List Op)) (schedule : List ℕ) (n : ℕ) → IsScript head actors →
    IsGoing head actors (after_rounds head actors schedule n)
rounds_going head actors schedule zero s = turns_going head actors schedule (start head actors) s (start_going head actors s)
rounds_going head actors schedule (suc n) s =
    turns_going head actors (numbers (length (present head) + length actors)) (after_rounds head actors schedule n) s
    (rounds_going head actors schedule n s)

search_end : (head : Head) (actors : List (List Op)) (schedule : List ℕ) (fuel n : ℕ) → IsScript head actors →
    ((m : ℕ) → m < n → is_over actors (after_rounds head actors schedule m) ≡ false) →
    MAX_EVENTS + sum_by (λ ops. length ops) actors ≤ distance (after_rounds head actors schedule n) + fuel →
    (events : List Event) × IsRun head actors schedule events
search_end head actors schedule zero n s early far = go (is_over actors (after_rounds head actors schedule n)) refl
  where
    go : (b : Bool) → is_over actors (after_rounds head actors schedule n) ≡ b → (events : List Event) × IsRun head actors schedule events
    go true f = (_, record { rounds = n; over = f; no_sooner = early; events_are = refl })
    go false f =
        let g = rounds_going head actors schedule n s in
        let a = round_goes head actors (after_rounds head actors schedule n) s g f in
        let b = far_enough head actors (after_rounds head actors schedule (suc n)) (rounds_going head actors schedule (suc n) s) in
        absurd (omega (arith, a, b, far))
search_end head actors schedule (suc fuel) n s early far =
    go (is_over actors (after_rounds head actors schedule n)) refl (λ e l. search_end head actors schedule fuel (suc n) s e l)
  where
    sooner : is_over actors (after_rounds head actors schedule n) ≡ false → (m : ℕ) → m < suc n → (b : Bool) → eqb m n ≡ b →
        is_over actors (after_rounds head actors schedule m) ≡ false
    sooner f m h true e =
        let same : m ≡ n = eqb-true m n e in subst (λ z. is_over actors (after_rounds head actors schedule z) ≡ false) (sym same) f
    sooner f m h false e = early m (grind (arith, nat_tests))

    go : (b : Bool) → is_over actors (after_rounds head actors schedule n) ≡ b →
        (((m : ℕ) → m < suc n → is_over actors (after_rounds head actors schedule m) ≡ false) →
        MAX_EVENTS + sum_by (λ ops. length ops) actors ≤ distance (after_rounds head actors schedule (suc n)) + fuel →
        (events : List Event) × IsRun head actors schedule events) →
        (events : List Event) × IsRun head actors schedule events
    go true f r = (_, record { rounds = n; over = f; no_sooner = early; events_are = refl })
    go false f r =
        let g = rounds_going head actors schedule n s in
        let a = round_goes head actors (after_rounds head actors schedule n) s g f in
        r (λ m h. sooner f m h (eqb m n) refl) (omega (arith, a, far))

pub run_ends : (head : Head) (actors : List (List Op)) (schedule : List ℕ) → IsScript head actors →
    (events : List Event) × IsRun head actors schedule events
run_ends head actors schedule s =
    search_end head actors schedule (MAX_EVENTS + sum_by (λ ops. length ops) actors) 0 s (λ m h. absurd (omega (arith, h))) (omega arith)

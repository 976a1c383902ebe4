-- Turns of seats in rising number, and rounds of them, as the run makes them.
use Rattle.std.proofs.Common.{◌≡◌, ℕ, zero, suc, ◌+◌, ◌-◌, ◌<◌, ◌≤◌, Bool, true, false, ◌&&◌, eqb, ltb, is_none, Option, Some, None, List, ◌++◌, length, refl, ap, sym, subst, ◌∙◌, arith}
use Rattle.std.specs.Prelude.{option_map, IsTrue}
use Rattle.std.specs.List.{sum_by}
use Rattle.std.proofs.lemmas.Bool.{true≢false, eqb-true, eqb-false, ltb-true, ltb-false}
use Rattle.hp_states.proofs.Basics.{less_or}
use Rattle.hp_states.specs.declared.limits.TheConstants.{MAX_EVENTS}
use Rattle.hp_event.specs.declared.op.Op.{Op}
use Rattle.hp_event.specs.declared.head.Head.{Head}
use Rattle.hp_hook.specs.Counted.{Counts}
use Rattle.hp_model.specs.Distance.{distance}
use Rattle.hp_model.specs.Lists.{numbers}
use Rattle.hp_model.specs.NextEvent.{due_entry}
use Rattle.hp_model.specs.Processors.{present}
use Rattle.hp_model.specs.Scripts.{IsScript}
use Rattle.hp_model.specs.ScriptRun.{start, answered_below, is_over, after_round, after_rounds, IsRun}
use Rattle.hp_model.specs.ScriptTurns.{RunState, unanswered, turn, after_turns}
use Rattle.hp_model.proofs.RoundsEnd.{turns_go_on, turns_bounded}
use Rattle.hp_model.proofs.EntryProcessors.{present_below as there_possible}
use Rattle.hp_board.specs.declared.turn.Ask.{Ask}
use Rattle.hp_actors.specs.RunInvariant.{IsReached}
use Rattle.hp_actors.specs.Positions.{Position, op_of}
use Rattle.hp_account.specs.UnderWay.{IsThreadDue, NoThreadDue}
use Rattle.hp_actors.proofs.Admissions.{present_below}
use Rattle.hp_actors.proofs.Progressing.{turns_push, turns_none, turns_more, thread_turn, idle_turn}
use Rattle.hp_actors.proofs.ThreadSeats.{IsSeatOf, IsSeated, AreQuiet, seated, below_rises, below_next, seats_idle, quiet_before, sits_below}

-- seats that nothing is due from are passed over
pub idle_until : (head : Head) (actors : List (List Op)) (at : RunState) (m d n : ℕ) → n ≡ m + d → n ≤ length (present head) →
    ((k : ℕ) → m ≤ k → k < n → due_entry head (after_turns head actors at (numbers m)).events k ≡ None) →
    after_turns head actors at (numbers n) ≡ after_turns head actors at (numbers m)
idle_until head actors at m zero n is few none =
    let e : n ≡ m = omega (arith, is) in ap (λ z. after_turns head actors at (numbers z)) e
idle_until head actors at m (suc d) n is few none =
    let k : ℕ = m + d in
    let e : n ≡ suc k = omega (arith, is) in
    let before = idle_until head actors at m d k refl (omega (arith, e, few)) (λ j a b. none j a (omega (arith, b, e))) in
    let idle =
    idle_turn head actors (after_turns head actors at (numbers m)) k (omega (arith, e, few)) (none k (omega arith) (omega (arith, e))) in
    ap (λ z. after_turns head actors at (numbers z)) e
    ∙ (turns_push head actors at (numbers k) k ∙ (ap (λ z. turn head actors z k) before ∙ idle))

-- one seat more
pub numbers_more : (head : Head) (actors : List (List Op)) (at : RunState) (k : ℕ) →
    after_turns head actors at (numbers (k + 1)) ≡ turn head actors (after_turns head actors at (numbers k)) k
numbers_more head actors at k =
    let e : k + 1 ≡ suc k = omega arith in
    ap (λ z. after_turns head actors at (numbers z)) e ∙ turns_push head actors at (numbers k) k

-- where a run stands after turns of the threads of the processors below a number
pub record IsServed (old now : Position) (from : ℕ) : Type 0 where
  pub head : now.head ≡ old.head
  pub actors : now.actors ≡ old.actors
  pub few : from ≤ old.head.possible
  pub turned : now.progress ≡ after_turns old.head old.actors old.progress (numbers (length (present_below old.head from)))
  pub hooks : now.hooks ≡ old.hooks

pub first_served : (old : Position) → IsServed old old 0
first_served old = record {
  head = refl;
  actors = refl;
  few = omega arith;
  turned = sym (turns_none old.head old.actors old.progress);
  hooks = refl;
}

-- it is seated
pub still_seated : (old now : Position) (from : ℕ) → IsScript old.head old.actors → IsReached old.head old.actors old.progress →
    IsServed old now from → IsSeated old.head now.progress.events
still_seated old now from script r s =
    seated old.head old.actors now.progress script (
      r.0 ++ numbers (length (present_below old.head from)),
      s.turned
          ∙ (ap (λ q. after_turns old.head old.actors q (numbers (length (present_below old.head from)))) r.1
          ∙ sym (turns_more old.head old.actors (start old.head old.actors) r.0 (numbers (length (present_below old.head from))))),
    )

-- threads from which nothing is due are passed over
pub passed : (old now : Position) (from to : ℕ) → IsServed old now from → IsSeated old.head now.progress.events →
    AreQuiet old.head now.progress.events from to → from ≤ to → to ≤ old.head.possible → IsServed old now to
passed old now from to s seats quiet up few = record {
  head = s.head;
  actors = s.actors;
  few = few;
  turned =
      let m : ℕ = length (present_below old.head from) in
      let n : ℕ = length (present_below old.head to) in
      let le : m ≤ n = below_rises old.head from to up in
      let all : n ≤ length (present old.head) = below_rises old.head to old.head.possible few in
      s.turned
      ∙ sym (idle_until old.head old.actors old.progress m (n - m) n (omega (arith, le)) all
      (λ k a b. ap (λ (q : RunState). due_entry old.head q.events k) (sym s.turned)
      ∙ seats_idle old.head now.progress.events from to k seats quiet a b (omega (arith, b, all))));
  hooks = s.hooks;
}

-- the next thread that something is due from has its turn
pub more_served : (old now after : Position) (from cpu seat : ℕ) → IsServed old now from → IsSeated old.head now.progress.events →
    from ≤ cpu → IsThreadDue now.head now.progress.events cpu seat → NoThreadDue now.head now.progress.events from cpu →
    after
    ≡ record {
      head = now.head;
      actors = now.actors;
      progress = turn now.head now.actors now.progress seat;
      hooks = now.hooks;
    } →
    IsServed old after (cpu + 1)
more_served old now after from cpu seat s seats low due none is = record {
  head = ap (λ p. p.head) is ∙ s.head;
  actors = ap (λ p. p.actors) is ∙ s.actors;
  few = omega (arith, possible);
  turned =
      let here = passed old now from cpu s seats (quiet_before old.head now.progress.events from cpu seats none_here) low (omega (arith, possible)) in
      let next = below_next old.head cpu sits.there in
      let i = sits.seat_is in
      let e : seat + 1 ≡ length (present_below old.head (cpu + 1)) = omega (arith, next, i) in
      ap (λ p. p.progress) is
      ∙ (ap (λ h. turn h now.actors now.progress seat) s.head ∙ (ap (λ a. turn old.head a now.progress seat) s.actors
      ∙ (ap (λ q. turn old.head old.actors q seat) (here.turned ∙ ap (λ z. after_turns old.head old.actors old.progress (numbers z)) (sym i))
      ∙ (sym (numbers_more old.head old.actors old.progress seat)
      ∙ ap (λ z. after_turns old.head old.actors old.progress (numbers z)) e))));
  hooks = ap (λ p. p.hooks) is ∙ s.hooks;
}
  where
    none_here : NoThreadDue old.head now.progress.events from cpu
    none_here = subst (λ h. NoThreadDue h now.progress.events from cpu) s.head none

    sits : IsSeatOf old.head cpu seat
    sits = seats.threads cpu seat due.thread_is

    possible : cpu < old.head.possible
    possible = there_possible old.head cpu sits.there

-- a thread's processor is one of the machine, and its seat one of a thread
pub thread_possible : (old now : Position) (from cpu seat : ℕ) → IsServed old now from → IsSeated old.head now.progress.events →
    IsThreadDue now.head now.progress.events cpu seat → cpu < old.head.possible
thread_possible old now from cpu seat s seats due = there_possible old.head cpu (seats.threads cpu seat due.thread_is).there

pub thread_seated : (old now : Position) (from cpu seat : ℕ) → IsServed old now from → IsSeated old.head now.progress.events →
    IsThreadDue now.head now.progress.events cpu seat → seat < length (present now.head)
thread_seated old now from cpu seat s seats due =
    subst (λ (h : Head). seat < length (present h)) (sym s.head)
    (sits_below old.head cpu seat (seats.threads cpu seat due.thread_is))

-- threads answer nothing
pub threads_answer : (head : Head) (actors : List (List Op)) (at : RunState) (n : ℕ) → n ≤ length (present head) →
    (after_turns head actors at (numbers n)).answers ≡ at.answers
threads_answer head actors at zero few = ap (λ q. q.answers) (turns_none head actors at)
threads_answer head actors at (suc n) few =
    let before = after_turns head actors at (numbers n) in
    ap (λ q. q.answers) (turns_push head actors at (numbers n) n ∙ thread_turn head actors before n (omega (arith, few)))
    ∙ threads_answer head actors at n (omega (arith, few))

-- one seat more of a round
pub seat_more : (old now after : Position) (seat : ℕ) → now.head ≡ old.head → now.actors ≡ old.actors →
    now.progress ≡ after_turns old.head old.actors old.progress (numbers seat) →
    after.progress ≡ turn now.head now.actors now.progress seat →
    after.progress ≡ after_turns old.head old.actors old.progress (numbers (seat + 1))
seat_more old now after seat head actors turned is =
    is
    ∙ (ap (λ h. turn h now.actors now.progress seat) head ∙ (ap (λ a. turn old.head a now.progress seat) actors
    ∙ (ap (λ q. turn old.head old.actors q seat) turned ∙ sym (numbers_more old.head old.actors old.progress seat))))

pub all_served : (old now : Position) (from : ℕ) → IsServed old now from → IsSeated old.head now.progress.events →
    NoThreadDue now.head now.progress.events from now.head.possible →
    now
    ≡ record {
      head = old.head;
      actors = old.actors;
      progress = after_turns old.head old.actors old.progress (numbers (length (present old.head)));
      hooks = old.hooks;
    }
all_served old now from s seats none =
    let t =
    (passed old now from old.head.possible s seats
    (quiet_before old.head now.progress.events from old.head.possible seats
    (subst (λ (h : Head). NoThreadDue h now.progress.events from h.possible) s.head none)) s.few (omega arith)).turned in
    same now.head now.actors now.progress now.hooks old.head old.actors _ old.hooks s.head s.actors t s.hooks
  where
    same : (h : Head) (a : List (List Op)) (p : RunState) (hs : List (List (Option Counts))) (i : Head) (b : List (List Op)) (q : RunState)
        (gs : List (List (Option Counts))) → h ≡ i → a ≡ b → p ≡ q → hs ≡ gs →
        ◌≡◌ {A = Position} (record { head = h; actors = a; progress = p; hooks = hs })
        (record { head = i; actors = b; progress = q; hooks = gs })
    same h a p hs i b q gs x y z w = rw (x, y, z, w) refl

-- ---- whether all is answered

both_false : (a b : Bool) → a ≡ false → (a && b) ≡ false
both_false a b h = ap (λ z. z && b) h

right_false : (a b : Bool) → b ≡ false → (a && b) ≡ false
right_false true b h = h
right_false false b h = refl

pub not_over : (actors : List (List Op)) (answers : List ℕ) (i n : ℕ) → i < n → is_none (unanswered actors answers i) ≡ false →
    answered_below actors answers n ≡ false
not_over actors answers i zero below h = absurd (omega (arith, below))
not_over actors answers i (suc n) below h = go (eqb i n) refl (λ less. not_over actors answers i n less h)
  where
    go : (b : Bool) → eqb i n ≡ b → (i < n → answered_below actors answers n ≡ false) →
        (answered_below actors answers n && is_none (unanswered actors answers n)) ≡ false
    go true e before =
        let same : i ≡ n = eqb-true i n e in
        right_false (answered_below actors answers n) (is_none (unanswered actors answers n)) (rw same at h)
    go false e before =
        both_false (answered_below actors answers n) (is_none (unanswered actors answers n))
        (before (less_or i n below (eqb-false i n e)))

-- an actor that isn't done has an operation to be answered
pub pending : {H : Type 0} (ask : Option (Ask H)) (b : Bool) → (ask ≡ None → IsTrue b) → b ≡ false →
    is_none (option_map op_of ask) ≡ false
pending None b h f = absurd (not_true b (h refl) f)
  where
    not_true : (b : Bool) → IsTrue b → b ≡ false → ⊥
    not_true true t f = true≢false f
    not_true false t f = absurd (grind arith)
pending (Some ask) b h f = refl

pub answered_more : (actors : List (List Op)) (answers : List ℕ) (i : ℕ) → answered_below actors answers i ≡ true →
    unanswered actors answers i ≡ None → answered_below actors answers (i + 1) ≡ true
answered_more actors answers i h none =
    let e : i + 1 ≡ suc i = omega arith in
    ap (answered_below actors answers) e
    ∙ (ap (λ b. b && is_none (unanswered actors answers i)) h ∙ ap is_none none)

-- ---- rounds

-- so many rounds after a schedule's turns were made, and none of them once all was answered
pub record HasRounds (head : Head) (actors : List (List Op)) (seats : List ℕ) (now : RunState) : Type 0 where
  pub count : ℕ
  pub now_is : now ≡ after_rounds head actors seats count
  pub no_sooner : (n : ℕ) → n < count → is_over actors (after_rounds head actors seats n) ≡ false

pub first_round : (head : Head) (actors : List (List Op)) (seats : List ℕ) (now : RunState) →
    now ≡ after_turns head actors (start head actors) seats → HasRounds head actors seats now
first_round head actors seats now is =
    record { count = 0; now_is = is; no_sooner = λ n below. absurd (omega (arith, below)) }

pub next_round : (head : Head) (actors : List (List Op)) (seats : List ℕ) (now after : RunState) → HasRounds head actors seats now →
    is_over actors now ≡ false → after ≡ after_round head actors now → HasRounds head actors seats after
next_round head actors seats now after r goes is = record {
  count = suc r.count;
  now_is = is ∙ ap (after_round head actors) r.now_is;
  no_sooner = λ n below. go n below (ltb n r.count) refl;
}
  where
    go : (n : ℕ) → n < suc r.count → (b : Bool) → ltb n r.count ≡ b → is_over actors (after_rounds head actors seats n) ≡ false
    go n below true e = r.no_sooner n (ltb-true n r.count e)
    go n below false e =
        let m = ltb-false n r.count e in
        let same : n ≡ r.count = omega (arith, below, m) in
        ap (λ z. is_over actors (after_rounds head actors seats z)) same ∙ (ap (is_over actors) (sym r.now_is) ∙ goes)

pub last_round : (head : Head) (actors : List (List Op)) (seats : List ℕ) (now : RunState) → HasRounds head actors seats now →
    is_over actors now ≡ true → IsRun head actors seats now.events
last_round head actors seats now r over = record {
  rounds = r.count;
  over = ap (is_over actors) (sym r.now_is) ∙ over;
  no_sooner = r.no_sooner;
  events_are = ap (λ z. z.events) r.now_is;
}

-- a round comes nearer to the end
pub round_nearer : (head : Head) (actors : List (List Op)) (now after : RunState) → IsScript head actors →
    IsReached head actors now → IsReached head actors after → is_over actors now ≡ false → after ≡ after_round head actors now →
    (MAX_EVENTS + sum_by (λ ops. length ops) actors) - distance after
    < (MAX_EVENTS + sum_by (λ ops. length ops) actors) - distance now
round_nearer head actors now after script r s goes is =
    let on =
    turns_go_on head actors r.0 script (ap (is_over actors) (sym r.1) ∙ goes) in
    let on_now : distance now < distance after =
    subst (λ z. distance z < distance after) (sym r.1)
    (subst (λ z. distance (after_turns head actors (start head actors) r.0) < distance z)
    (ap (after_round head actors) (sym r.1) ∙ sym is) on) in
    let bounded = subst (λ z. distance z ≤ MAX_EVENTS + sum_by (λ ops. length ops) actors) (sym s.1) (turns_bounded head actors s.0 script) in
    omega (arith, on_now, bounded)

-- where the run stands before and after a round
pub record IsRound (now after : Position) : Type 0 where
  pub script : IsScript now.head now.actors
  pub reached : IsReached now.head now.actors now.progress
  pub reached_after : IsReached after.head after.actors after.progress
  pub goes : is_over now.actors now.progress ≡ false
  pub head_is : after.head ≡ now.head
  pub actors_are : after.actors ≡ now.actors
  pub after_is : after.progress ≡ after_round now.head now.actors now.progress

pub round_smaller : (now after : Position) → IsRound now after →
    (MAX_EVENTS + sum_by (λ ops. length ops) after.actors) - distance after.progress
    < (MAX_EVENTS + sum_by (λ ops. length ops) now.actors) - distance now.progress
round_smaller now after r =
    let reached =
    subst (λ h. IsReached h now.actors after.progress) r.head_is
    (subst (λ a. IsReached after.head a after.progress) r.actors_are r.reached_after) in
    subst (λ a.
    (MAX_EVENTS + sum_by (λ ops. length ops) a) - distance after.progress
    < (MAX_EVENTS + sum_by (λ ops. length ops) now.actors) - distance now.progress) (sym r.actors_are)
    (round_nearer now.head now.actors now.progress after.progress r.script r.reached reached r.goes r.after_is)

-- rounds of a script, one more
pub more_rounds : (old now after : Position) → now.head ≡ old.head → now.actors ≡ old.actors → IsRound now after →
    (seats : List ℕ) → HasRounds old.head old.actors seats now.progress → HasRounds old.head old.actors seats after.progress
more_rounds old now after head actors r seats h =
    next_round old.head old.actors seats now.progress after.progress h (ap (λ a. is_over a now.progress) (sym actors) ∙ r.goes)
    (r.after_is
    ∙ (ap (λ z. after_round z now.actors now.progress) head ∙ ap (λ a. after_round old.head a now.progress) actors))

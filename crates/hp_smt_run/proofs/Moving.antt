-- While a run under SMT control isn't over, some seat's turn gets further.
use Rattle.std.proofs.Common.{◌≡◌, ℕ, zero, suc, ◌+◌, ◌<◌, ◌≤◌, Bool, true, false, cond, not, ◌&&◌, ◌||◌, eqb, is_some, is_none, Option, Some, None, List, [], ◌∷◌, ◌++◌, length, length-append, refl, ap, sym, ◌∙◌, subst, inl, inr, ◌⊎◌, arith}
use Rattle.std.specs.Prelude.{pos, slice_get, get_or, option_to_list, sum, sum_by}
use Rattle.std.proofs.lemmas.Bool.{true≢false, eqb-true, eqb-false, eq-eqb}
use Rattle.std.proofs.lemmas.List.{get_or_append_left}
use Rattle.std.proofs.lemmas.List.Sums.{sum_by-cons}
use Rattle.hp_states.proofs.Basics.{none_some, less_or}
use Rattle.hp_states.specs.declared.limits.TheConstants.{MAX_EVENTS}
use Rattle.hp_states.specs.declared.cpu_set.CpuSet.{CpuSet}
use Rattle.hp_event.specs.declared.answer.Answer.{Answer}
use Rattle.hp_event.specs.declared.answer.Answer.TheVariants.{Ok, Refused}
use Rattle.hp_event.specs.declared.op.Op.{Op}
use Rattle.hp_event.specs.declared.head.Head.{Head}
use Rattle.hp_event.specs.declared.event.Event.{Event}
use Rattle.hp_model.specs.Distance.{distance}
use Rattle.hp_model.specs.Events.{answer_by}
use Rattle.hp_model.specs.Lists.{is_empty}
use Rattle.hp_model.specs.MapLock.{Operation, operation, is_map_held}
use Rattle.hp_model.specs.NextEvent.{next_event, is_full}
use Rattle.hp_model.specs.Processors.{present}
use Rattle.hp_model.specs.ScriptRun.{answered_below, is_over as all_answered}
use Rattle.hp_model.specs.ScriptTurns.{RunState, unanswered, after_event, turn}
use Rattle.hp_model.specs.Suspend.{is_disabled, frozen}
use Rattle.hp_model.proofs.Going.{Going}
use Rattle.hp_model.proofs.OneNext.{owners}
use Rattle.hp_model.proofs.RoomKept.{promises_fit}
use Rattle.hp_smt.specs.Modes.{wants_on, ended_mode, own_op}
use Rattle.hp_smt.specs.Run.{SmtState, with_run, without, after_asking, and_event, if_answered, after_write, after_writing, writes, smt_turn, is_over, after_smt_round}
use Rattle.hp_smt.specs.Siblings.{lowest_of, sibling_online}
use Rattle.hp_smt.specs.Turns.{is_denied_by}
use Rattle.hp_smt.specs.Writes.{Step, current, after_own, after_answer, finished, gone_on_with, own_cpu, or_chosen, unless_at_once, at_once, is_done, goes_on as step_on, answers, at_rest, mode_before, under, recorded_after, taking_of}
use Rattle.hp_smt.specs.declared.mode.Control.{Control}
use Rattle.hp_smt.specs.declared.mode.Control.TheVariants.{On}
use Rattle.hp_smt.specs.declared.setting.Write.{Write}
use Rattle.hp_smt_run.proofs.Beside.{beside, with_none, long_beside, un_left, un_last}
use Rattle.hp_smt_run.proofs.Kept.{op_for, op_of_write, IsWriterOf, Kept, Fits, none_script, own_script, other_own, Writing, writing_of}
use Rattle.hp_smt_run.proofs.Further.{reach, sum_counted, and_far, turns_go}
pub use Rattle.hp_smt_run.proofs.Seats.{GetsFurther, NoneDenied, thread_is, actor_is, writer_is, further_by, client_turn, idle_client}

-- ---- whether all is answered

answered_false : (actors : List (List Op)) (ns : List ℕ) (i m : ℕ) (op : Op) → i < m → unanswered actors ns i ≡ Some op →
    answered_below actors ns m ≡ false
answered_false actors ns i zero op below u = absurd (omega (arith, below))
answered_false actors ns i (suc m) op below u = go (eqb i m) refl (λ less. answered_false actors ns i m op less u)
  where
    go : (b : Bool) → eqb i m ≡ b → (i < m → answered_below actors ns m ≡ false) →
        (answered_below actors ns m && is_none (unanswered actors ns m)) ≡ false
    go true e before =
        let same : i ≡ m = eqb-true i m e in
        let at : unanswered actors ns m ≡ Some op = subst (λ z. unanswered actors ns z ≡ Some op) same u in
        and_false (answered_below actors ns m) (is_none (unanswered actors ns m)) (ap is_none at)
      where
        and_false : (a b : Bool) → b ≡ false → (a && b) ≡ false
        and_false true b h = h
        and_false false b h = refl
    go false e before =
        ap (λ z. z && is_none (unanswered actors ns m)) (before (less_or i m below (eqb-false i m e)))

answered_left : (ops : List (List Op)) (own : List Op) (ns : List ℕ) (m : ℕ) → length ns ≡ length ops → m ≤ length ops →
    answered_below (ops ++ own ∷ []) (ns ++ 0 ∷ []) m ≡ answered_below ops ns m
answered_left ops own ns zero long few = refl
answered_left ops own ns (suc m) long few =
    let before = answered_left ops own ns m long (omega (arith, few)) in
    let here = un_left ops own ns 0 m long (omega (arith, few)) in
    rw (before, here) refl

seats_beside : (ops : List (List Op)) (own : List Op) → length (ops ++ own ∷ []) ≡ suc (length ops)
seats_beside ops own = let l = long_beside ops own in omega (arith, l)

pub not_answered : (ops : List (List Op)) (own : Option Op) (at : RunState) → length at.answers ≡ length ops → all_answered ops at ≡ false →
    all_answered (beside ops own) (with_none at) ≡ false
not_answered ops own at long h =
    ap (answered_below (beside ops own) (at.answers ++ 0 ∷ [])) (seats_beside ops (option_to_list own))
    ∙ ap (λ z. z && is_none (unanswered (beside ops own) (at.answers ++ 0 ∷ []) (length ops)))
    (answered_left ops (option_to_list own) at.answers (length ops) long (omega arith) ∙ h)

pub not_answered_at : (ops : List (List Op)) (own : Option Op) (at : RunState) (i : ℕ) (op : Op) → i ≤ length ops →
    unanswered (beside ops own) (at.answers ++ 0 ∷ []) i ≡ Some op → all_answered (beside ops own) (with_none at) ≡ false
not_answered_at ops own at i op few u =
    let l = seats_beside ops (option_to_list own) in
    answered_false (beside ops own) (at.answers ++ 0 ∷ []) i (length (beside ops own)) op (omega (arith, l, few)) u

-- ---- where something is denied

denied_or : (head : Head) (n : ℕ) (ops : List (List Op)) (want : Control) (at : SmtState) → length at.run.answers ≡ length ops → (m : ℕ) →
    m ≤ length ops → GetsFurther head n ops want at ⊎ NoneDenied head n ops at m
denied_or head n ops want at long zero few = inr (λ i op below u. absurd (omega (arith, below)))
denied_or head n ops want at long (suc m) few = go (denied_or head n ops want at long m (omega (arith, few)))
  where
    P : ℕ
    P = length (present head)

    more : NoneDenied head n ops at m →
        ((op : Op) → unanswered ops at.run.answers m ≡ Some op →
        is_denied_by at.run.events n at.setting.mode (P + m) op ≡ false) →
        NoneDenied head n ops at (suc m)
    more none here i op below u = by (eqb i m) refl
      where
        by : (b : Bool) → eqb i m ≡ b → is_denied_by at.run.events n at.setting.mode (P + i) op ≡ false
        by true e =
            let same : i ≡ m = eqb-true i m e in
            subst (λ z. is_denied_by at.run.events n at.setting.mode (P + z) op ≡ false) (sym same)
            (here op (subst (λ z. unanswered ops at.run.answers z ≡ Some op) same u))
        by false e = none i op (less_or i m below (eqb-false i m e)) u

    up : (op : Op) → unanswered ops at.run.answers m ≡ Some op →
        is_denied_by at.run.events n at.setting.mode (P + m) op ≡ true → GetsFurther head n ops want at
    up op u d = record {
      seat = P + m;
      is_seat = omega (arith, few);
      up =
          let is : smt_turn head n ops want at (P + m) ≡ without (P + m) m at =
          actor_is head n ops want at (P + m) m refl (omega (arith, few))
          ∙ (ap (λ o. after_asking head n (P + m) m o at) u
          ∙ ap (λ b.
          cond b (without (P + m) m at)
          (with_run at (after_event m (next_event head at.run.events (P + m) op) (is_full head at.run.events (P + m) op) at.run)))
          d) in
          let s = sum_counted m at.run.answers (omega (arith, few, long)) in
          subst (λ z. reach at < reach z) (sym is) (omega (arith, s));
    }

    by_op : NoneDenied head n ops at m → (o : Option Op) → unanswered ops at.run.answers m ≡ o →
        GetsFurther head n ops want at ⊎ NoneDenied head n ops at (suc m)
    by_op none None u = inr (more none (λ op v. absurd (none_some op (sym u ∙ v))))
    by_op none (Some op) u = by (is_denied_by at.run.events n at.setting.mode (P + m) op) refl
      where
        by : (b : Bool) → is_denied_by at.run.events n at.setting.mode (P + m) op ≡ b →
            GetsFurther head n ops want at ⊎ NoneDenied head n ops at (suc m)
        by true d = inl (up op u d)
        by false d =
            inr (more none (λ other v.
            subst (λ z. is_denied_by at.run.events n at.setting.mode (P + m) z ≡ false) (same_op op other (sym u ∙ v)) d))
          where
            same_op : (x y : Op) → Some x ≡ Some y → x ≡ y
            same_op x y h = cc

    go : GetsFurther head n ops want at ⊎ NoneDenied head n ops at m → GetsFurther head n ops want at ⊎ NoneDenied head n ops at (suc m)
    go (inl h) = inl h
    go (inr none) = by_op none (unanswered ops at.run.answers m) refl

-- ---- the client's turn

record WritesNow (head : Head) (n : ℕ) (ops : List (List Op)) (want next : Control) (k : ℕ) (at : SmtState) (step : Step) : Type 0 where
  seat_is : k ≡ length (present head) + length ops
  next_is : slice_get (writes want) (length at.written) ≡ Some next
  step_is : after_writing head n k (Some next) at ≡ after_write head next step at

by_write : (head : Head) (n : ℕ) (ops : List (List Op)) (want next : Control) (k : ℕ) (at : SmtState) (step : Step) →
    WritesNow head n ops want next k at step → reach at < reach (after_write head next step at) → GetsFurther head n ops want at
by_write head n ops want next k at step w up = record {
  seat = k;
  is_seat = let s = w.seat_is in omega (arith, s);
  up =
      subst (λ z. reach at < reach z)
      (sym (writer_is head n ops want at k w.seat_is ∙ (ap (λ o. after_writing head n k o at) w.next_is ∙ w.step_is))) up;
}

answer_up : (head : Head) (next : Control) (at : SmtState) (step : Step) (a : Answer) → step.answer ≡ Some a →
    reach at < reach (after_write head next step at)
answer_up head next at step a is =
    let f = and_far at.run.events step.event in
    let l = length-append at.written (if_answered head (and_event at.run.events step.event) next step.answer) in
    let one : length (if_answered head (and_event at.run.events step.event) next step.answer) ≡ 1 =
    ap (λ o. length (if_answered head (and_event at.run.events step.event) next o)) is in
    omega (arith, f, l, one)

event_up : (head : Head) (next : Control) (at : SmtState) (step : Step) (e : Event) → step.event ≡ Some e →
    reach at < reach (after_write head next step at)
event_up head next at step e is =
    let f : length (and_event at.run.events step.event) ≡ length at.run.events + 1 =
    ap (λ o. length (and_event at.run.events o)) is ∙ length-append at.run.events (e ∷ []) in
    let l = length-append at.written (if_answered head (and_event at.run.events step.event) next step.answer) in
    omega (arith, f, l)

answer_event : (recorded : CpuSet) (w : Write) (c : ℕ) (e : Event) (o : Option Answer) → (after_answer recorded w c e o).event ≡ Some e
answer_event recorded w c e None = refl
answer_event recorded w c e (Some a) = go (is_done a)
  where
    go : (b : Bool) →
        (cond b (step_on (Some e) (under (recorded_after w.want recorded c) (taking_of w None)))
        (answers (Some e) (at_rest (mode_before w) recorded) a)).event
        ≡ Some e
    go true = refl
    go false = refl

own_up : (head : Head) (next : Control) (at : SmtState) (recorded : CpuSet) (w : Write) (c k : ℕ) (run : RunState) (o : Option Event)
    (full : Bool) → distance run < distance (after_event k o full run) → reach at < reach (after_write head next (after_own recorded w c o full) at)
own_up head next at recorded w c k run (Some e) full up =
    event_up head next at (after_answer recorded w c e (answer_by e)) e (answer_event recorded w c e (answer_by e))
own_up head next at recorded w c k run None true up = answer_up head next at (after_own recorded w c None true) _ refl
own_up head next at recorded w c k run None false up = absurd (omega (arith, up))

-- with no processor left it is answered, unless the map lock is held
finished_or : (xs : List Event) (recorded : CpuSet) (w : Write) (on : Bool) →
    ((a : Answer) × ((finished xs recorded w on).answer ≡ Some a)) ⊎ (is_map_held xs ≡ true)
finished_or xs recorded w true = inl (Ok (pos 0), refl)
finished_or xs recorded w false = go (is_map_held xs) refl
  where
    by_frozen : (d : Bool) →
        (a : Answer)
        × ((cond d (answers None (at_rest (mode_before w) recorded) (Refused 16))
        (answers None (at_rest (ended_mode w.want) recorded) (Ok (pos 0)))).answer
        ≡ Some a)
    by_frozen true = (Refused 16, refl)
    by_frozen false = (Ok (pos 0), refl)

    go : (b : Bool) → is_map_held xs ≡ b →
        ((a : Answer)
        × ((cond b (step_on None (under recorded w))
        (cond (is_disabled xs || not (is_empty (frozen xs))) (answers None (at_rest (mode_before w) recorded) (Refused 16))
        (answers None (at_rest (ended_mode w.want) recorded) (Ok (pos 0))))).answer
        ≡ Some a))
        ⊎ (is_map_held xs ≡ true)
    go true e = inr e
    go false e = inl (by_frozen (is_disabled xs || not (is_empty (frozen xs))))

-- ---- some seat's turn

held_by : (o : Option Operation) → is_some o ≡ true → (h : Operation) × (o ≡ Some h)
held_by None e = absurd (true≢false (sym e))
held_by (Some h) e = (h, refl)

-- while an actor holds the map lock, and the client has nothing in flight, one of the others gets further
of_holder : (head : Head) (n : ℕ) (ops : List (List Op)) (want : Control) (at : SmtState) → Fits head ops →
    length at.run.answers ≡ length ops → NoneDenied head n ops at (length ops) →
    Going head (beside ops None) at.run.events (at.run.answers ++ 0 ∷ []) → is_map_held at.run.events ≡ true →
    GetsFurther head n ops want at
of_holder head n ops want at fits long none g held =
    let h = held_by (operation at.run.events) held in
    let o = h.0 in
    let client = (owners head at.run.events g.lawful).op_client o h.1 in
    let sits = g.roster.only o.seat client in
    let u = g.asked sits.0 o.op (inl (o, h.1, sits.2, refl)) in
    let below = sits.1 in
    let l = long_beside ops [] in
    further_by head n ops want None at long none (none_script head ops fits) g
    (not_answered_at ops None at.run sits.0 o.op (omega (arith, below, l)) u) (idle_client head n ops want at long)

two_writes : (want : Control) (j : ℕ) → slice_get (writes want) j ≡ None → 2 ≤ j
two_writes want zero h = absurd (none_some want (sym h))
two_writes want (suc zero) h = absurd (none_some On (sym h))
two_writes want (suc (suc j)) h = omega arith

no_writer : (k : ℕ) (slot : Option Control) (o : Option Write) → IsWriterOf k slot o → slot ≡ None → op_of_write o ≡ None
no_writer k slot None h e = refl
no_writer k slot (Some w) h e = absurd (none_some w.want (sym e ∙ h.1))

-- both writes are answered
past_writes : (head : Head) (n : ℕ) (ops : List (List Op)) (want : Control) (at : SmtState) → Fits head ops → Kept head ops want at →
    NoneDenied head n ops at (length ops) → slice_get (writes want) (length at.written) ≡ None → is_over ops at ≡ false →
    GetsFurther head n ops want at
past_writes head n ops want at fits g none next over =
    let few = g.few in
    let most = two_writes want (length at.written) next in
    let two : eqb (length at.written) 2 ≡ true = eq-eqb (length at.written) 2 (omega (arith, few, most)) in
    let left : all_answered ops at.run ≡ false = left_false (all_answered ops at.run) (eqb (length at.written) 2) two over in
    let own = no_writer (length (present head) + length ops) (slice_get (writes want) (length at.written)) at.setting.write g.writer next in
    further_by head n ops want None at g.long none (none_script head ops fits)
    (subst (λ o. Going head (beside ops o) at.run.events (at.run.answers ++ 0 ∷ [])) own g.going)
    (not_answered ops None at.run g.long left) (idle_client head n ops want at g.long)
  where
    left_false : (a b : Bool) → b ≡ true → (a && b) ≡ false → a ≡ false
    left_false true b e h = absurd (true≢false (sym e ∙ h))
    left_false false b e h = refl

-- a write goes on
goes_further : (head : Head) (n : ℕ) (ops : List (List Op)) (want next : Control) (k : ℕ) (at : SmtState) → Fits head ops →
    Kept head ops want at → NoneDenied head n ops at (length ops) → k ≡ length (present head) + length ops →
    slice_get (writes want) (length at.written) ≡ Some next → at_once at.setting k next ≡ None → GetsFurther head n ops want at
goes_further head n ops want next k at fits g none is next_is later =
    go w.taking refl (own_cpu head xs n at.setting.recorded w) refl
  where
    xs : List Event
    xs = at.run.events

    w : Write
    w = current xs at.setting k next

    chosen : Option ℕ
    chosen = cond (wants_on w.want) (lowest_of at.setting.recorded) (sibling_online n head xs)

    v : Writing head ops want next at w
    v = writing_of head ops want next k at fits g is next_is

    now : WritesNow head n ops want next k at (gone_on_with head xs at.setting.recorded w (own_cpu head xs n at.setting.recorded w))
    now = record {
      seat_is = is;
      next_is = next_is;
      step_is =
          ap (λ o.
          after_write head next
          (unless_at_once at.setting o (gone_on_with head xs at.setting.recorded w (own_cpu head xs n at.setting.recorded w))) at)
          later;
    }

    now_with : (o : Option ℕ) → own_cpu head xs n at.setting.recorded w ≡ o →
        WritesNow head n ops want next k at (gone_on_with head xs at.setting.recorded w o)
    now_with o e = subst (λ z. WritesNow head n ops want next k at (gone_on_with head xs at.setting.recorded w z)) e now

    by_own : (c : ℕ) → own_cpu head xs n at.setting.recorded w ≡ Some c → (w.taking ≡ None) ⊎ (w.taking ≡ Some c) →
        GetsFurther head n ops want at
    by_own c e taken =
        further_by head n ops want (Some (own_op w.want c)) at g.long none (own_script head ops w.want c fits)
        (other_own head ops want next at w v (Some (own_op w.want c)) (λ op f. in_hand op f taken))
        (not_answered_at ops (Some (own_op w.want c)) at.run (length ops) (own_op w.want c) (omega arith)
        (un_last ops (own_op w.want c ∷ []) at.run.answers 0 g.long)) client
      where
        in_hand : (op : Op) → op_for w.want w.taking ≡ Some op → (w.taking ≡ None) ⊎ (w.taking ≡ Some c) → Some (own_op w.want c) ≡ Some op
        in_hand op f (inl t) = absurd (none_some op (sym (ap (op_for w.want) t) ∙ f))
        in_hand op f (inr t) = sym (ap (op_for w.want) t) ∙ f

        client : (j : ℕ) → j ≡ length (present head) + length ops →
            distance (with_none at.run) < distance (turn head (beside ops (Some (own_op w.want c))) (with_none at.run) j) →
            GetsFurther head n ops want at
        client j is_j up =
            let seat : j ≡ w.seat = is_j ∙ sym v.current.seat_is in
            let turned = client_turn head ops (Some (own_op w.want c)) j at.run g.long is_j in
            by_write head n ops want next k at (gone_on_with head xs at.setting.recorded w (Some c)) (now_with (Some c) e)
            (own_up head next at at.setting.recorded w c (length ops) (with_none at.run) (next_event head xs w.seat (own_op w.want c))
            (is_full head xs w.seat (own_op w.want c))
            (subst (λ z.
            distance (with_none at.run)
            < distance
            (after_event (length ops) (next_event head xs z (own_op w.want c)) (is_full head xs z (own_op w.want c)) (with_none at.run))) seat
            (subst (λ z. distance (with_none at.run) < distance z) turned up)))

    by_none : own_cpu head xs n at.setting.recorded w ≡ None → w.taking ≡ None → GetsFurther head n ops want at
    by_none e taking = by (finished_or xs at.setting.recorded w (wants_on w.want))
      where
        by : ((a : Answer) × ((finished xs at.setting.recorded w (wants_on w.want)).answer ≡ Some a)) ⊎ (is_map_held xs ≡ true) →
            GetsFurther head n ops want at
        by (inl a) =
            by_write head n ops want next k at (gone_on_with head xs at.setting.recorded w None) (now_with None e)
            (answer_up head next at (finished xs at.setting.recorded w (wants_on w.want)) a.0 a.1)
        by (inr held) =
            of_holder head n ops want at fits g.long none
            (other_own head ops want next at w v None (λ op f. absurd (none_some op (sym (ap (op_for w.want) taking) ∙ f)))) held

    go : (t : Option ℕ) → w.taking ≡ t → (o : Option ℕ) → own_cpu head xs n at.setting.recorded w ≡ o → GetsFurther head n ops want at
    go (Some x) e o f =
        let same : Some x ≡ o = sym (ap (λ z. or_chosen z chosen) e) ∙ f in
        by_own x (f ∙ sym same) (inr e)
    go None e None f = by_none f e
    go None e (Some x) f = by_own x f (inl e)

pub gets_further : (head : Head) (n : ℕ) (ops : List (List Op)) (want : Control) (at : SmtState) → Fits head ops → Kept head ops want at →
    is_over ops at ≡ false → GetsFurther head n ops want at
gets_further head n ops want at fits g over = go (denied_or head n ops want at g.long (length ops) (omega arith))
  where
    k : ℕ
    k = length (present head) + length ops

    once : NoneDenied head n ops at (length ops) → (next : Control) → slice_get (writes want) (length at.written) ≡ Some next →
        (o : Option Answer) → at_once at.setting k next ≡ o → GetsFurther head n ops want at
    once none next e None f = goes_further head n ops want next k at fits g none refl e f
    once none next e (Some a) f =
        let w = current at.run.events at.setting k next in
        let gone = gone_on_with head at.run.events at.setting.recorded w (own_cpu head at.run.events n at.setting.recorded w) in
        by_write head n ops want next k at (answers None at.setting a)
        (record {
          seat_is = refl;
          next_is = e;
          step_is = ap (λ o. after_write head next (unless_at_once at.setting o gone) at) f;
        })
        (answer_up head next at (answers None at.setting a) a refl)

    by_slot : NoneDenied head n ops at (length ops) → (o : Option Control) → slice_get (writes want) (length at.written) ≡ o →
        GetsFurther head n ops want at
    by_slot none None e = past_writes head n ops want at fits g none e over
    by_slot none (Some next) e = once none next e (at_once at.setting k next) refl

    go : GetsFurther head n ops want at ⊎ NoneDenied head n ops at (length ops) → GetsFurther head n ops want at
    go (inl h) = h
    go (inr none) = by_slot none (slice_get (writes want) (length at.written)) refl

-- ---- rounds

pub round_further : (head : Head) (n : ℕ) (ops : List (List Op)) (want : Control) (at : SmtState) → Fits head ops → Kept head ops want at →
    is_over ops at ≡ false → reach at < reach (after_smt_round head n ops want at)
round_further head n ops want at fits g over =
    let f = gets_further head n ops want at fits g over in
    turns_go head n ops want (length (present head) + length ops + 1) at f.seat g.long (omega arith) f.is_seat f.up

-- there is room for so many
sum_within : (ns : List ℕ) (ops : List (List Op)) → length ns ≡ length ops →
    ((i : ℕ) → i < length ops → get_or ns i 0 ≤ length (get_or ops i [])) → sum ns ≤ sum_by (λ a. length a) ops
sum_within [] ops h w = omega arith
sum_within (n ∷ ns) [] h w = absurd (omega (arith, h))
sum_within (n ∷ ns) (a ∷ more) h w =
    let r = sum_within ns more (omega (arith, h)) (λ i l. w (suc i) (omega (arith, l))) in
    let x = sum_by-cons (λ x. x) n ns in
    let y = sum_by-cons (λ a. length a) a more in
    let c : n ≤ length a = w 0 (omega arith) in
    omega (arith, r, x, y, c)

-- no run gets further than that
abbrev pub furthest : (ops : List (List Op)) → ℕ
furthest ops = MAX_EVENTS + sum_by (λ a. length a) ops + 2

pub no_further : (head : Head) (ops : List (List Op)) (want : Control) (at : SmtState) → Kept head ops want at → reach at ≤ furthest ops
no_further head ops want at g =
    let a = promises_fit head at.run.events g.going.lawful in
    let few = g.few in
    let b = sum_within at.run.answers ops g.long (λ i below. within i below (g.going.within i)) in
    omega (arith, a, b, few)
  where
    within : (i : ℕ) → i < length ops →
        get_or (at.run.answers ++ 0 ∷ []) i 0 ≤ length (get_or (beside ops (op_of_write at.setting.write)) i []) →
        get_or at.run.answers i 0 ≤ length (get_or ops i [])
    within i below h =
        let long = g.long in
        let x = get_or_append_left at.run.answers (0 ∷ []) 0 i (omega (arith, long, below)) in
        let y = ap (λ z. length z) (get_or_append_left ops (option_to_list (op_of_write at.setting.write) ∷ []) [] i below) in
        omega (arith, h, x, y)

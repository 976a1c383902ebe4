-- What every run under SMT control keeps of the client that writes: turns of the client keep it too.
use Rattle.std.proofs.Common.{◌≡◌, ℕ, ◌+◌, ◌-◌, ◌<◌, ◌≤◌, Bool, true, false, cond, not, ◌||◌, eqb, ltb, is_some, Option, Some, None, List, [], ◌∷◌, ◌++◌, length, length-append, append-nil, refl, ap, sym, ◌∙◌, subst, inl, inr, ◌⊎◌, arith}
use Rattle.std.specs.Prelude.{fold, pos, slice_get, option_to_list}
use Rattle.std.proofs.lemmas.Bool.{true≢false, eqb-true, eq-eqb, ltb-false}
use Rattle.std.proofs.lemmas.List.{length-replicate}
use Rattle.std.proofs.lemmas.Option.{slice_get_within}
use Rattle.hp_states.proofs.Basics.{none_some, same_some}
use Rattle.hp_states.specs.declared.cpu_set.CpuSet.{CpuSet}
use Rattle.hp_event.specs.declared.answer.Answer.{Answer}
use Rattle.hp_event.specs.declared.answer.Answer.TheVariants.{Ok, Refused}
use Rattle.hp_event.specs.declared.op.Op.{Op}
use Rattle.hp_event.specs.declared.head.Head.{Head}
use Rattle.hp_event.specs.declared.event.Event.{Event}
use Rattle.hp_model.specs.Events.{is_answer, answer_by}
use Rattle.hp_model.specs.Lists.{is_empty}
use Rattle.hp_model.specs.MapLock.{is_map_held}
use Rattle.hp_model.specs.NextEvent.{due_entry, next_event, is_full}
use Rattle.hp_model.specs.Processors.{present}
use Rattle.hp_model.specs.ScriptTurns.{unanswered, counted, after_entry}
use Rattle.hp_model.specs.Suspend.{is_disabled, frozen}
use Rattle.hp_model.proofs.FlightSteps.{free_not}
use Rattle.hp_model.proofs.Going.{Going, asks_allowed, going_event}
use Rattle.hp_model.proofs.NextGives.{full_only}
use Rattle.hp_model.proofs.NextStands.{next_stands, next_belongs}
use Rattle.hp_smt.specs.Modes.{wants_on, ended_mode, own_op}
use Rattle.hp_smt.specs.Run.{SmtState, with_run, after_asking, and_event, if_answered, after_write, after_writing, writes, smt_turn, smt_start}
use Rattle.hp_smt.specs.Writes.{Step, write_by, current, begun, or_begun, after_own, after_answer, finished, gone_on_with, own_cpu, or_chosen, unless_at_once, at_once, decided, is_done, goes_on, answers, at_rest, mode_before, under, recorded_after, taking_of}
use Rattle.hp_smt.specs.declared.mode.Control.{Control}
use Rattle.hp_smt.specs.declared.setting.Setting.{Setting}
use Rattle.hp_smt.specs.declared.setting.Write.{Write}
use Rattle.hp_smt_run.specs.Reached.{IsReached}
use Rattle.hp_smt_run.proofs.Beside.{beside, another, counted_last, start_beside, un_last}
pub use Rattle.hp_smt_run.proofs.Client.{op_for, op_of_write, IsWriterOf, Kept, Fits, own_unlocked, own_script, none_script, script_of, kept_entry, kept_asking}

-- ---- turns of the client

-- what a step leaves
step_kept : (head : Head) (ops : List (List Op)) (want next : Control) (at : SmtState) (step : Step) → Kept head ops want at →
    slice_get (writes want) (length at.written) ≡ Some next →
    Going head (beside ops (op_of_write step.setting.write)) (and_event at.run.events step.event) (at.run.answers ++ 0 ∷ []) →
    (step.answer ≡ None → IsWriterOf (length (present head) + length ops) (Some next) step.setting.write) →
    (is_some step.answer ≡ true → step.setting.write ≡ None) → Kept head ops want (after_write head next step at)
step_kept head ops want next at step g is going goes ends = record {
  going = going;
  long = g.long;
  writer = writer step.answer goes ends;
  few = few step.answer;
}
  where
    k : ℕ
    k = length (present head) + length ops

    before : length at.written < 2
    before = slice_get_within (writes want) (length at.written) next is

    few : (o : Option Answer) → length (at.written ++ if_answered head (and_event at.run.events step.event) next o) ≤ 2
    few None = let l = length-append at.written [] in omega (arith, before, l)
    few (Some a) =
        let l = length-append at.written (if_answered head (and_event at.run.events step.event) next (Some a)) in
        omega (arith, before, l)

    writer : (o : Option Answer) → (o ≡ None → IsWriterOf k (Some next) step.setting.write) →
        (is_some o ≡ true → step.setting.write ≡ None) →
        IsWriterOf k
        (slice_get (writes want) (length (at.written ++ if_answered head (and_event at.run.events step.event) next o)))
        step.setting.write
    writer None goes ends =
        subst (λ z. IsWriterOf k z step.setting.write)
        (sym (ap (λ z. slice_get (writes want) (length z)) (append-nil at.written) ∙ is)) (goes refl)
    writer (Some a) goes ends =
        subst
        (IsWriterOf k
        (slice_get (writes want) (length (at.written ++ if_answered head (and_event at.run.events step.event) next (Some a)))))
        (sym (ends refl)) tt

-- the write that goes on is the one in flight, or begins
pub record IsCurrent (seat : ℕ) (next : Control) (s : Setting) (w : Write) : Type 0 where
  pub seat_is : w.seat ≡ seat
  pub want_is : w.want ≡ next
  pub op_is : op_for w.want w.taking ≡ op_of_write s.write

pub current_is : (xs : List Event) (s : Setting) (k : ℕ) (next : Control) (slot : Option Control) → slot ≡ Some next → IsWriterOf k slot s.write →
    IsCurrent k next s (current xs s k next)
current_is xs s k next slot is h = go s.write h refl
  where
    go : (o : Option Write) → IsWriterOf k slot o → s.write ≡ o →
        IsCurrent k next s (or_begun (write_by k o) (begun s k next (length xs)))
    go None h e = record { seat_is = refl; want_is = refl; op_is = ap op_of_write (sym e) }
    go (Some w) h e =
        let own : write_by k (Some w) ≡ Some w = ap (λ b. cond b (Some w) None) (eq-eqb w.seat k h.0) in
        subst (λ z. IsCurrent k next s (or_begun z (begun s k next (length xs)))) (sym own)
        (record { seat_is = h.0; want_is = sym (same_some next w.want (sym is ∙ h.1)); op_is = ap op_of_write (sym e) })

-- what is answered at once is no write in flight
pub none_in_flight : (k : ℕ) (slot : Option Control) (s : Setting) (next : Control) (a : Answer) → IsWriterOf k slot s.write →
    at_once s k next ≡ Some a → s.write ≡ None
none_in_flight k slot s next a h at = go s.write h refl
  where
    go : (o : Option Write) → IsWriterOf k slot o → s.write ≡ o → s.write ≡ None
    go None h e = e
    go (Some w) h e =
        let own : write_by k s.write ≡ Some w = ap (write_by k) e ∙ ap (λ b. cond b (Some w) None) (eq-eqb w.seat k h.0) in
        absurd (none_some a (sym (ap (λ z. cond (is_some z) None (decided s k next)) own) ∙ at))

pub record Writing (head : Head) (ops : List (List Op)) (want next : Control) (at : SmtState) (w : Write) : Type 0 where
  pub fits : Fits head ops
  pub kept : Kept head ops want at
  pub next_is : slice_get (writes want) (length at.written) ≡ Some next
  pub current : IsCurrent (length (present head) + length ops) next at.setting w

-- where no operation of its own is in flight it may be any
pub other_own : (head : Head) (ops : List (List Op)) (want next : Control) (at : SmtState) (w : Write) → Writing head ops want next at w →
    (other : Option Op) → ((op : Op) → op_for w.want w.taking ≡ Some op → other ≡ Some op) →
    Going head (beside ops other) at.run.events (at.run.answers ++ 0 ∷ [])
other_own head ops want next at w v other same =
    another head ops (option_to_list (op_of_write at.setting.write)) (option_to_list other) at.run.events at.run.answers 0 v.kept.long refl
    v.kept.going (λ op f e. go op (op_of_write at.setting.write) v.current.op_is e)
  where
    first : (o : Option Op) (op : Op) → o ≡ Some op → slice_get (option_to_list o) 0 ≡ Some op
    first o op e = ap (λ z. slice_get (option_to_list z) 0) e

    go : (op : Op) (o : Option Op) → op_for w.want w.taking ≡ o → slice_get (option_to_list o) 0 ≡ Some op →
        slice_get (option_to_list other) 0 ≡ Some op
    go op None f e = absurd (none_some op e)
    go op (Some x) f e = first other op (same op (f ∙ e))

own_kept : (head : Head) (ops : List (List Op)) (want next : Control) (at : SmtState) (w : Write) (recorded : CpuSet) (c : ℕ) →
    Writing head ops want next at w → (w.taking ≡ None) ⊎ (w.taking ≡ Some c) → (o : Option Event) →
    next_event head at.run.events w.seat (own_op w.want c) ≡ o → (full : Bool) →
    is_full head at.run.events w.seat (own_op w.want c) ≡ full →
    Kept head ops want (after_write head next (after_own recorded w c o full) at)
own_kept head ops want next at w recorded c v taken o is full is_full_by = go o is full is_full_by
  where
    P : ℕ
    P = length (present head)

    A : ℕ
    A = length ops

    xs : List Event
    xs = at.run.events

    ns : List ℕ
    ns = at.run.answers

    own : Op
    own = own_op w.want c

    V : List (List Op)
    V = beside ops (Some own)

    in_hand : (op : Op) → op_for w.want w.taking ≡ Some op → (w.taking ≡ None) ⊎ (w.taking ≡ Some c) → Some own ≡ Some op
    in_hand op f (inl t) = absurd (none_some op (sym (ap (op_for w.want) t) ∙ f))
    in_hand op f (inr t) = sym (ap (op_for w.want) t) ∙ f

    g : Going head V xs (ns ++ 0 ∷ [])
    g = other_own head ops want next at w v (Some own) (λ op f. in_hand op f taken)

    u : unanswered V (ns ++ 0 ∷ []) A ≡ Some own
    u = un_last ops (own ∷ []) ns 0 v.kept.long

    made : (e : Event) → next_event head xs w.seat own ≡ Some e → Going head V (xs ++ e ∷ []) (counted A (is_answer e) (ns ++ 0 ∷ []))
    made e f =
        let d = next_stands head xs w.seat own e f in
        let a = asks_allowed head V xs (ns ++ 0 ∷ []) w.seat A own (own_script head ops w.want c v.fits) g v.current.seat_is u in
        going_event head V xs (ns ++ 0 ∷ []) A own e g u d.0 (d.1 ∙ v.current.seat_is)
        (next_belongs head xs (record { seat = w.seat; op = own }) e g.lawful a f)

    still : (e : Event) → next_event head xs w.seat own ≡ Some e → answer_by e ≡ None → Going head V (xs ++ e ∷ []) (ns ++ 0 ∷ [])
    still e f q = subst (λ b. Going head V (xs ++ e ∷ []) (counted A (is_some b) (ns ++ 0 ∷ []))) q (made e f)

    over : (e : Event) (a : Answer) → next_event head xs w.seat own ≡ Some e → answer_by e ≡ Some a →
        Going head (beside ops None) (xs ++ e ∷ []) (ns ++ 0 ∷ [])
    over e a f q =
        another head ops (own ∷ []) [] (xs ++ e ∷ []) ns 1 v.kept.long (own_unlocked w.want c)
        (subst (λ z. Going head V (xs ++ e ∷ []) z) (counted_last ns A v.kept.long)
        (subst (λ b. Going head V (xs ++ e ∷ []) (counted A (is_some b) (ns ++ 0 ∷ []))) q (made e f)))
        (λ op f e. absurd (none_some op e))

    by_answer : (e : Event) → next_event head xs w.seat own ≡ Some e → (b : Option Answer) → answer_by e ≡ b →
        Kept head ops want (after_write head next (after_answer recorded w c e b) at)
    by_answer e f None q =
        step_kept head ops want next at (goes_on (Some e) (under recorded (taking_of w (Some c)))) v.kept v.next_is (still e f q)
        (λ z. (v.current.seat_is, ap Some (sym v.current.want_is))) (λ z. absurd (true≢false (sym z)))
    by_answer e f (Some a) q = done (is_done a)
      where
        done : (b : Bool) →
            Kept head ops want
            (after_write head next
            (cond b (goes_on (Some e) (under (recorded_after w.want recorded c) (taking_of w None)))
            (answers (Some e) (at_rest (mode_before w) recorded) a)) at)
        done true =
            step_kept head ops want next at (goes_on (Some e) (under (recorded_after w.want recorded c) (taking_of w None))) v.kept
            v.next_is (over e a f q) (λ z. (v.current.seat_is, ap Some (sym v.current.want_is))) (λ z. absurd (true≢false (sym z)))
        done false =
            step_kept head ops want next at (answers (Some e) (at_rest (mode_before w) recorded) a) v.kept v.next_is (over e a f q)
            (λ z. tt) (λ z. refl)

    go : (o : Option Event) → next_event head xs w.seat own ≡ o → (full : Bool) → is_full head xs w.seat own ≡ full →
        Kept head ops want (after_write head next (after_own recorded w c o full) at)
    go (Some e) f full q = by_answer e f (answer_by e) refl
    go None f true q =
        let free = (full_only head xs w.seat own q).free in
        step_kept head ops want next at (after_own recorded w c None true) v.kept v.next_is
        (another head ops (own ∷ []) [] xs ns 0 v.kept.long refl g
        (λ op f e. absurd (free_not xs (record { seat = P + A; op = op }) w.seat f free v.current.seat_is)))
        (λ z. tt) (λ z. refl)
    go None f false q =
        step_kept head ops want next at (goes_on None (under recorded w)) v.kept v.next_is
        (other_own head ops want next at w v (op_for w.want w.taking) (λ op e. e))
        (λ z. (v.current.seat_is, ap Some (sym v.current.want_is))) (λ z. absurd (true≢false (sym z)))

finished_kept : (head : Head) (ops : List (List Op)) (want next : Control) (at : SmtState) (w : Write) (recorded : CpuSet) →
    Writing head ops want next at w → w.taking ≡ None → (on : Bool) →
    Kept head ops want (after_write head next (finished at.run.events recorded w on) at)
finished_kept head ops want next at w recorded v none on = go on
  where
    none_taken : op_for w.want w.taking ≡ None
    none_taken = ap (op_for w.want) none

    idle : Going head (beside ops None) at.run.events (at.run.answers ++ 0 ∷ [])
    idle = other_own head ops want next at w v None (λ op e. absurd (none_some op (sym none_taken ∙ e)))

    answered : (m : Setting) (a : Answer) → m.write ≡ None → Kept head ops want (after_write head next (answers None m a) at)
    answered m a e =
        step_kept head ops want next at (answers None m a) v.kept v.next_is
        (subst (λ (z : Option Write). Going head (beside ops (op_of_write z)) at.run.events (at.run.answers ++ 0 ∷ [])) (sym e) idle)
        (λ z. absurd (none_some a (sym z))) (λ z. e)

    by_frozen : (d : Bool) →
        Kept head ops want
        (after_write head next
        (cond d (answers None (at_rest (mode_before w) recorded) (Refused 16))
        (answers None (at_rest (ended_mode w.want) recorded) (Ok (pos 0)))) at)
    by_frozen true = answered (at_rest (mode_before w) recorded) (Refused 16) refl
    by_frozen false = answered (at_rest (ended_mode w.want) recorded) (Ok (pos 0)) refl

    by_held : (b : Bool) →
        Kept head ops want
        (after_write head next
        (cond b (goes_on None (under recorded w))
        (cond (is_disabled at.run.events || not (is_empty (frozen at.run.events))) (answers None (at_rest (mode_before w) recorded) (Refused 16))
        (answers None (at_rest (ended_mode w.want) recorded) (Ok (pos 0))))) at)
    by_held true =
        step_kept head ops want next at (goes_on None (under recorded w)) v.kept v.next_is
        (other_own head ops want next at w v (op_for w.want w.taking) (λ op e. e))
        (λ z. (v.current.seat_is, ap Some (sym v.current.want_is))) (λ z. absurd (true≢false (sym z)))
    by_held false = by_frozen (is_disabled at.run.events || not (is_empty (frozen at.run.events)))

    go : (on : Bool) → Kept head ops want (after_write head next (finished at.run.events recorded w on) at)
    go true = answered (at_rest (ended_mode w.want) recorded) (Ok (pos 0)) refl
    go false = by_held (is_map_held at.run.events)

-- the write that a turn of the client goes on with
pub writing_of : (head : Head) (ops : List (List Op)) (want next : Control) (k : ℕ) (at : SmtState) → Fits head ops → Kept head ops want at →
    k ≡ length (present head) + length ops → slice_get (writes want) (length at.written) ≡ Some next →
    Writing head ops want next at (current at.run.events at.setting k next)
writing_of head ops want next k at fits g is next_is =
    let slot = slice_get (writes want) (length at.written) in
    let writer = subst (λ z. IsWriterOf z slot at.setting.write) (sym is) g.writer in
    record {
      fits = fits;
      kept = g;
      next_is = next_is;
      current =
          subst (λ z. IsCurrent z next at.setting (current at.run.events at.setting k next)) is
          (current_is at.run.events at.setting k next slot next_is writer);
    }

kept_writing : (head : Head) (n : ℕ) (ops : List (List Op)) (want : Control) (k : ℕ) (at : SmtState) → Fits head ops →
    Kept head ops want at → k ≡ length (present head) + length ops → (o : Option Control) →
    slice_get (writes want) (length at.written) ≡ o → Kept head ops want (after_writing head n k o at)
kept_writing head n ops want k at fits g is None next = g
kept_writing head n ops want k at fits g is (Some c) next = once (at_once s k c) refl
  where
    s : Setting
    s = at.setting

    w : Write
    w = current at.run.events s k c

    writer : IsWriterOf k (slice_get (writes want) (length at.written)) s.write
    writer = subst (λ z. IsWriterOf z (slice_get (writes want) (length at.written)) s.write) (sym is) g.writer

    v : Writing head ops want c at w
    v = writing_of head ops want c k at fits g is next

    gone : (t chosen : Option ℕ) → w.taking ≡ t → (o : Option ℕ) → or_chosen t chosen ≡ o →
        Kept head ops want (after_write head c (gone_on_with head at.run.events s.recorded w o) at)
    gone (Some x) chosen e None f = absurd (none_some x (sym f))
    gone None chosen e None f = finished_kept head ops want c at w s.recorded v e (wants_on w.want)
    gone None chosen e (Some x) f =
        own_kept head ops want c at w s.recorded x v (inl e) (next_event head at.run.events w.seat (own_op w.want x)) refl
        (is_full head at.run.events w.seat (own_op w.want x)) refl
    gone (Some y) chosen e (Some x) f =
        own_kept head ops want c at w s.recorded x v (inr (e ∙ f)) (next_event head at.run.events w.seat (own_op w.want x)) refl
        (is_full head at.run.events w.seat (own_op w.want x)) refl

    once : (o : Option Answer) → at_once s k c ≡ o →
        Kept head ops want
        (after_write head c
        (unless_at_once s o
        (gone_on_with head at.run.events s.recorded w (own_cpu head at.run.events n s.recorded w))) at)
    once (Some a) f =
        let none = none_in_flight k (slice_get (writes want) (length at.written)) s c a writer f in
        step_kept head ops want c at (answers None s a) g next g.going (λ z. absurd (none_some a (sym z))) (λ z. none)
    once None f =
        gone w.taking _ refl (own_cpu head at.run.events n s.recorded w) refl

-- ---- any turn

pub turn_kept : (head : Head) (n : ℕ) (ops : List (List Op)) (want : Control) (at : SmtState) (k : ℕ) → Fits head ops →
    Kept head ops want at → Kept head ops want (smt_turn head n ops want at k)
turn_kept head n ops want at k fits g = go (ltb k P) refl
  where
    P : ℕ
    P = length (present head)

    A : ℕ
    A = length ops

    by_seat : (b : Bool) → eqb k (P + A) ≡ b →
        Kept head ops want (cond b (after_writing head n k (slice_get (writes want) (length at.written)) at) at)
    by_seat true e =
        kept_writing head n ops want k at fits g (eqb-true k (P + A) e) (slice_get (writes want) (length at.written)) refl
    by_seat false e = g

    by_actor : ltb k P ≡ false → (b : Bool) → ltb k (P + A) ≡ b →
        Kept head ops want
        (cond b (after_asking head n k (k - P) (unanswered ops at.run.answers (k - P)) at)
        (cond (eqb k (P + A)) (after_writing head n k (slice_get (writes want) (length at.written)) at) at))
    by_actor past true e =
        let l = ltb-false k P past in
        kept_asking head n ops want k (k - P) at fits g (omega (arith, l)) (unanswered ops at.run.answers (k - P)) refl
    by_actor past false e = by_seat (eqb k (P + A)) refl

    go : (b : Bool) → ltb k P ≡ b →
        Kept head ops want
        (cond b (with_run at (after_entry (due_entry head at.run.events k) at.run))
        (cond (ltb k (P + A)) (after_asking head n k (k - P) (unanswered ops at.run.answers (k - P)) at)
        (cond (eqb k (P + A)) (after_writing head n k (slice_get (writes want) (length at.written)) at) at)))
    go true e = kept_entry head ops want k at g (due_entry head at.run.events k) refl
    go false e = by_actor e (ltb k (P + A)) refl

pub turns_kept : (head : Head) (n : ℕ) (ops : List (List Op)) (want : Control) (seats : List ℕ) (at : SmtState) → Fits head ops →
    Kept head ops want at → Kept head ops want (fold (smt_turn head n ops want) at seats)
turns_kept head n ops want [] at fits g = g
turns_kept head n ops want (k ∷ ks) at fits g =
    turns_kept head n ops want ks (smt_turn head n ops want at k) fits (turn_kept head n ops want at k fits g)

pub start_kept : (head : Head) (ops : List (List Op)) (want : Control) → Fits head ops → Kept head ops want (smt_start head ops)
start_kept head ops want fits = record {
  going = start_beside head ops fits.script fits.seats;
  long = length-replicate (length ops) 0;
  writer = tt;
  few = omega arith;
}

pub reached_kept : (head : Head) (n : ℕ) (ops : List (List Op)) (want : Control) (at : SmtState) → Fits head ops →
    IsReached head n ops want at → Kept head ops want at
reached_kept head n ops want at fits r =
    subst (Kept head ops want) (sym r.1) (turns_kept head n ops want r.0 (smt_start head ops) fits (start_kept head ops want fits))

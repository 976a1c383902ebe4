-- What every run of a script keeps: who sits, that what is in flight is an actor's first operation that isn't answered, and that who
-- reads has a lock behind it and no unlock.
use Rattle.std.proofs.Common.{◌≡◌, ℕ, zero, suc, ◌+◌, ◌-◌, ◌<◌, ◌≤◌, Bool, true, false, cond, eqb, ltb, Option, Some, None, List, [], ◌∷◌, ◌++◌, length, get_or, replicate, refl, ap, sym, ◌∙◌, subst, inl, inr, ◌⊎◌, arith}
use Rattle.std.specs.Prelude.{All}
use Rattle.std.proofs.lemmas.Bool.{false≢true, eqb-true, ltb-false}
use Rattle.std.proofs.lemmas.List.{length-replicate}
use Rattle.std.proofs.lemmas.Bool.Decides.{nat_tests}
use Rattle.std.proofs.lemmas.Option.{get_or_from_slice_get}
use Rattle.hp_states.proofs.Basics.{not_equal, none_some, same_some}
use Rattle.hp_event.specs.declared.op.Op.{Op}
use Rattle.hp_event.specs.declared.op.Op.TheVariants.{Lock, Unlock}
use Rattle.hp_event.specs.declared.head.Head.{Head}
use Rattle.hp_event.specs.declared.event.Event.{Event}
use Rattle.hp_event.specs.declared.event.Event.TheVariants.{Call}
use Rattle.hp_model.specs.Events.{seat_of, is_call, is_answer, BelongsTo}
use Rattle.hp_model.specs.Processors.{present}
use Rattle.hp_model.specs.Subsystems.{names_sub}
use Rattle.hp_model.specs.Readers.{is_reading}
use Rattle.hp_model.specs.Lawful.{Stands, IsLawful}
use Rattle.hp_model.specs.Full.{IsFull}
use Rattle.hp_model.specs.Pending.{Pending, IsInFlight, IsAllowed}
use Rattle.hp_model.specs.NextEvent.{due_entry, next_event, is_full}
use Rattle.hp_model.specs.Scripts.{IsScript, lock_step, is_locked}
use Rattle.hp_model.specs.ScriptTurns.{RunState, unanswered, counted, after_entry, after_event, after_asking, turn, after_turns}
use Rattle.hp_model.proofs.HeadlineProof.{lawful_more}
use Rattle.hp_model.proofs.OneNext.{owners}
use Rattle.hp_model.proofs.DueGives.{due_stands}
use Rattle.hp_model.proofs.NextStands.{next_stands, next_belongs}
use Rattle.hp_model.proofs.NextGives.{full_only}
use Rattle.hp_model.proofs.Roster.{Roster, roster_more, roster_first, operation_first, registration_first, reading_first}
use Rattle.hp_model.proofs.RunLemmas.{admissions_lawful}
use Rattle.hp_model.specs.Admissions.{admissions}
use Rattle.hp_model.specs.ScriptRun.{start}
use Rattle.hp_model.proofs.FlightSteps.{Begins, enters, registers, Goes, flight_step, free_not}
use Rattle.hp_model.proofs.LockSteps.{reads_before, reads_other, reads_unless, unlocks, full_unlocks}
use Rattle.hp_model.proofs.AnswerCounts.{IsNth, nth_of, counted_long, unanswered_other, done_ops, done_other, done_more, is_locked_push, within_more}

pub record Going (head : Head) (actors : List (List Op)) (xs : List Event) (ns : List ℕ) : Type 0 where
  pub lawful : IsLawful head xs
  pub long : length ns ≡ length actors
  pub roster : Roster head actors xs
  pub asked : (i : ℕ) (op : Op) → IsInFlight xs (record { seat = length (present head) + i; op = op }) →
      unanswered actors ns i ≡ Some op
  pub reads : (i : ℕ) → is_reading (length (present head) + i) xs ≡ true → is_locked (done_ops actors ns i) ≡ true
  pub within : (i : ℕ) → get_or ns i 0 ≤ length (get_or actors i [])
  pub readers : (k : ℕ) → is_reading k xs ≡ true → (i : ℕ) × (i < length actors) × (k ≡ length (present head) + i)

not_eqb : (a b p : ℕ) → eqb a b ≡ false → eqb (p + b) (p + a) ≡ false
not_eqb a b p h = grind (arith, nat_tests)

-- an actor's first operation that isn't answered is one that it may ask for
has_sub : (head : Head) (actors : List (List Op)) (ns : List ℕ) (i : ℕ) (op : Op) →
    All (All (λ op. names_sub head op ≡ true)) actors → IsNth actors ns i op → names_sub head op ≡ true
has_sub head actors ns i op h n =
    let ops = get_or actors i [] in
    let a : All (λ op. names_sub head op ≡ true) ops = h i [] n.within in
    let b = a (get_or ns i 0) op n.below in
    subst (λ z. names_sub head z ≡ true) (get_or_from_slice_get ops (get_or ns i 0) op op n.op_is) b

pub asks_allowed : (head : Head) (actors : List (List Op)) (xs : List Event) (ns : List ℕ) (k i : ℕ) (op : Op) →
    IsScript head actors → Going head actors xs ns → k ≡ length (present head) + i → unanswered actors ns i ≡ Some op →
    IsAllowed head xs (record { seat = k; op = op })
asks_allowed head actors xs ns k i op s g e h =
    let n = nth_of actors ns i op h in
    record {
      client = rw e (g.roster.clients i n.within);
      same = λ other f. same_some other op (sym (g.asked i other (rw e at f)) ∙ h);
      has_sub = has_sub head actors ns i op s.has_subs n;
    }

-- after an entry of a thread
pub no_answer : (e : Event) → is_call e ≡ true → is_answer e ≡ false
no_answer (Call seat cpu state inst dir how) q = refl
no_answer e q = absurd (false≢true q)

pub going_entry : (head : Head) (actors : List (List Op)) (xs : List Event) (ns : List ℕ) (e : Event) → Going head actors xs ns →
    Stands head xs e → is_call e ≡ true → Going head actors (xs ++ e ∷ []) ns
going_entry head actors xs ns e g h c = record {
  lawful = lawful_more head xs e g.lawful h;
  long = g.long;
  roster = roster_more head actors xs e (inl c) g.roster;
  asked = λ i op f. asked i op (flight_step head xs _ e (owners head xs g.lawful) h.0 f);
  reads = λ i r. g.reads i (reads_unless xs _ e (no_answer e c) r);
  within = g.within;
  readers = λ k r. g.readers k (reads_unless xs k e (no_answer e c) r);
}
  where
    asked : (i : ℕ) (op : Op) → Begins (record { seat = length (present head) + i; op = op }) e
        ⊎ Goes xs (record { seat = length (present head) + i; op = op }) e → unanswered actors ns i ≡ Some op
    asked i op (inl (enters q)) = absurd (false≢true (sym (ap is_call q) ∙ c))
    asked i op (inl (registers s q)) = absurd (false≢true (sym (ap is_call q) ∙ c))
    asked i op (inr f) = g.asked i op f.before

-- what is locked after an answer
locked_by : (op : Op) (b r : Bool) → (op ≡ Unlock → ⊥) → ((op ≡ Lock → ⊥) → b ≡ true) → lock_step b op ≡ true
locked_by Lock b r n h = refl
locked_by Unlock b r n h = absurd (n refl)
locked_by op b r n h = h (λ q. cc)

-- after an event of an actor's operation
pub going_event : (head : Head) (actors : List (List Op)) (xs : List Event) (ns : List ℕ) (i : ℕ) (op : Op) (e : Event) →
    Going head actors xs ns → unanswered actors ns i ≡ Some op → Stands head xs e → seat_of e ≡ length (present head) + i →
    BelongsTo op e → Going head actors (xs ++ e ∷ []) (counted i (is_answer e) ns)
going_event head actors xs ns i op e g u h s b = record {
  lawful = lawful_more head xs e g.lawful h;
  long = counted_long i (is_answer e) ns ∙ g.long;
  roster = roster_more head actors xs e (inr (op, b)) g.roster;
  asked = λ j other f. asked j other (flight_step head xs _ e (owners head xs g.lawful) h.0 f);
  reads = λ j r. reads j (eqb j i) refl r;
  within = λ j. within_more actors i j (is_answer e) op ns u long (g.within j);
  readers = λ k r. readers k (eqb (seat_of e) k) refl r;
}
  where
    P : ℕ
    P = length (present head)

    n : IsNth actors ns i op
    n = nth_of actors ns i op u

    long : i < length ns
    long = let l = g.long in let w = n.within in omega (arith, l, w)

    readers : (k : ℕ) (m : Bool) → eqb (seat_of e) k ≡ m → is_reading k (xs ++ e ∷ []) ≡ true →
        (j : ℕ) × (j < length actors) × (k ≡ P + j)
    readers k true m r = (i, n.within, sym (eqb-true (seat_of e) k m) ∙ s)
    readers k false m r = g.readers k (reads_other xs k e m r)

    unchanged : (j : ℕ) (other : Op) → unanswered actors ns j ≡ Some other → is_answer e ≡ false →
        unanswered actors (counted i (is_answer e) ns) j ≡ Some other
    unchanged j other f q = ap (λ z. unanswered actors (counted i z ns) j) q ∙ f

    begun : (j : ℕ) (other : Op) → is_answer e ≡ false → seat_of e ≡ P + j → other ≡ op →
        unanswered actors (counted i (is_answer e) ns) j ≡ Some other
    begun j other q t r =
        let same : j ≡ i = omega (arith, s, t) in
        unchanged j other (ap (λ z. unanswered actors ns z) same ∙ (u ∙ ap Some (sym r))) q

    goes : (j : ℕ) (other : Op) → Goes xs (record { seat = P + j; op = other }) e → (m : Bool) → eqb j i ≡ m → (a : Bool) →
        is_answer e ≡ a → unanswered actors (counted i (is_answer e) ns) j ≡ Some other
    goes j other f false m a q =
        unanswered_other actors i j (is_answer e) ns (not_equal j i m) ∙ g.asked j other f.before
    goes j other f true m true q =
        let same : j ≡ i = eqb-true j i m in absurd (f.unanswered q (s ∙ ap (λ z. P + z) (sym same)))
    goes j other f true m false q = unchanged j other (g.asked j other f.before) q

    asked : (j : ℕ) (other : Op) → Begins (record { seat = P + j; op = other }) e ⊎ Goes xs (record { seat = P + j; op = other }) e →
        unanswered actors (counted i (is_answer e) ns) j ≡ Some other
    asked j other (inl (enters q)) =
        begun j other (ap is_answer q) (ap seat_of q) (subst (λ z. BelongsTo op z) q b)
    asked j other (inl (registers state q)) =
        begun j other (ap is_answer q) (ap seat_of q) (subst (λ z. BelongsTo op z) q b)
    asked j other (inr f) = goes j other f (eqb j i) refl (is_answer e) refl

    answered : is_answer e ≡ true → is_reading (P + i) (xs ++ e ∷ []) ≡ true → is_locked (done_ops actors (counted i true ns) i) ≡ true
    answered q r =
        ap is_locked (done_more actors i op ns u long)
        ∙ (is_locked_push (done_ops actors ns i) op
        ∙ locked_by op (is_locked (done_ops actors ns i)) true
        (λ t. unlocks head xs e h.0 (subst (λ z. BelongsTo z e) t b) q (subst (λ z. is_reading z (xs ++ e ∷ []) ≡ true) (sym s) r))
        (λ t. g.reads i (reads_before xs (P + i) op e b t r)))

    own : (a : Bool) → is_answer e ≡ a → is_reading (P + i) (xs ++ e ∷ []) ≡ true →
        is_locked (done_ops actors (counted i (is_answer e) ns) i) ≡ true
    own true q r = ap (λ z. is_locked (done_ops actors (counted i z ns) i)) q ∙ answered q r
    own false q r =
        ap (λ z. is_locked (done_ops actors (counted i z ns) i)) q ∙ g.reads i (reads_unless xs (P + i) e q r)

    reads : (j : ℕ) (m : Bool) → eqb j i ≡ m → is_reading (P + j) (xs ++ e ∷ []) ≡ true →
        is_locked (done_ops actors (counted i (is_answer e) ns) j) ≡ true
    reads j false m r =
        ap is_locked (done_other actors i j (is_answer e) ns (not_equal j i m))
        ∙ g.reads j (reads_other xs (P + j) e (ap (λ z. eqb z (P + j)) s ∙ not_eqb j i P m) r)
    reads j true m r =
        let same : j ≡ i = eqb-true j i m in
        subst (λ z. is_locked (done_ops actors (counted i (is_answer e) ns) z) ≡ true) (sym same)
        (own (is_answer e) refl (subst (λ z. is_reading (P + z) (xs ++ e ∷ []) ≡ true) same r))

-- after an answer without an event
pub going_full : (head : Head) (actors : List (List Op)) (xs : List Event) (ns : List ℕ) (k i : ℕ) (op : Op) →
    Going head actors xs ns → unanswered actors ns i ≡ Some op → k ≡ length (present head) + i → IsFull head xs k op →
    Going head actors xs (counted i true ns)
going_full head actors xs ns k i op g u s full = record {
  lawful = g.lawful;
  long = counted_long i true ns ∙ g.long;
  roster = g.roster;
  asked = λ j other f. asked j other f (eqb j i) refl;
  reads = λ j r. reads j (eqb j i) refl r;
  within = λ j. within_more actors i j true op ns u long (g.within j);
  readers = g.readers;
}
  where
    P : ℕ
    P = length (present head)

    n : IsNth actors ns i op
    n = nth_of actors ns i op u

    long : i < length ns
    long = let l = g.long in let w = n.within in omega (arith, l, w)

    asked : (j : ℕ) (other : Op) → IsInFlight xs (record { seat = P + j; op = other }) → (m : Bool) → eqb j i ≡ m →
        unanswered actors (counted i true ns) j ≡ Some other
    asked j other f false m = unanswered_other actors i j true ns (not_equal j i m) ∙ g.asked j other f
    asked j other f true m =
        let same : j ≡ i = eqb-true j i m in
        absurd (free_not xs (record { seat = P + j; op = other }) k f full.free (s ∙ ap (λ z. P + z) (sym same)))

    own : is_reading (P + i) xs ≡ true → is_locked (done_ops actors (counted i true ns) i) ≡ true
    own r =
        ap is_locked (done_more actors i op ns u long)
        ∙ (is_locked_push (done_ops actors ns i) op
        ∙ locked_by op (is_locked (done_ops actors ns i)) true
        (λ t. full_unlocks head xs k (owners head xs g.lawful) (subst (λ z. IsFull head xs k z) t full) (subst (λ z. is_reading z xs ≡ true) (sym s) r))
        (λ t. g.reads i r))

    reads : (j : ℕ) (m : Bool) → eqb j i ≡ m → is_reading (P + j) xs ≡ true → is_locked (done_ops actors (counted i true ns) j) ≡ true
    reads j false m r = ap is_locked (done_other actors i j true ns (not_equal j i m)) ∙ g.reads j r
    reads j true m r =
        let same : j ≡ i = eqb-true j i m in
        subst (λ z. is_locked (done_ops actors (counted i true ns) z) ≡ true) (sym same)
        (own (subst (λ z. is_reading (P + z) xs ≡ true) same r))

abbrev pub IsGoing : Head → (actors : List (List Op)) → RunState → Type 0
IsGoing head actors at = Going head actors at.events at.answers

-- so a turn keeps it
after_entry_going : (head : Head) (actors : List (List Op)) (k : ℕ) (at : RunState) → IsGoing head actors at → (o : Option Event) →
    due_entry head at.events k ≡ o → IsGoing head actors (after_entry o at)
after_entry_going head actors k at g None f = g
after_entry_going head actors k at g (Some e) f =
    let d = due_stands head at.events k e f in going_entry head actors at.events at.answers e g d.0 d.1

after_event_going : (head : Head) (actors : List (List Op)) (k i : ℕ) (op : Op) (at : RunState) → IsScript head actors →
    IsGoing head actors at → k ≡ length (present head) + i → unanswered actors at.answers i ≡ Some op → (o : Option Event) →
    next_event head at.events k op ≡ o → (full : Bool) → is_full head at.events k op ≡ full →
    IsGoing head actors (after_event i o full at)
after_event_going head actors k i op at s g e u None f true q =
    going_full head actors at.events at.answers k i op g u e (full_only head at.events k op q)
after_event_going head actors k i op at s g e u None f false q = g
after_event_going head actors k i op at s g e u (Some x) f full q =
    let d = next_stands head at.events k op x f in
    let a = asks_allowed head actors at.events at.answers k i op s g e u in
    going_event head actors at.events at.answers i op x g u d.0 (d.1 ∙ e)
    (next_belongs head at.events (record { seat = k; op = op }) x g.lawful a f)

after_asking_going : (head : Head) (actors : List (List Op)) (k i : ℕ) (at : RunState) → IsScript head actors →
    IsGoing head actors at → k ≡ length (present head) + i → (o : Option Op) → unanswered actors at.answers i ≡ o →
    IsGoing head actors (after_asking head k i o at)
after_asking_going head actors k i at s g e None u = g
after_asking_going head actors k i at s g e (Some op) u =
    after_event_going head actors k i op at s g e u (next_event head at.events k op) refl (is_full head at.events k op) refl

pub turn_going : (head : Head) (actors : List (List Op)) (at : RunState) (k : ℕ) → IsScript head actors → IsGoing head actors at →
    IsGoing head actors (turn head actors at k)
turn_going head actors at k s g = go (ltb k P) refl
  where
    P : ℕ
    P = length (present head)

    go : (b : Bool) → ltb k P ≡ b →
        IsGoing head actors
        (cond b (after_entry (due_entry head at.events k) at) (after_asking head k (k - P) (unanswered actors at.answers (k - P)) at))
    go true f = after_entry_going head actors k at g (due_entry head at.events k) refl
    go false f =
        let l = ltb-false k P f in
        after_asking_going head actors k (k - P) at s g (omega (arith, l)) (unanswered actors at.answers (k - P)) refl

pub turns_going : (head : Head) (actors : List (List Op)) (seats : List ℕ) (at : RunState) → IsScript head actors →
    IsGoing head actors at → IsGoing head actors (after_turns head actors at seats)
unfolding after_turns
turns_going head actors [] at s g = g
turns_going head actors (k ∷ ks) at s g = turns_going head actors ks (turn head actors at k) s (turn_going head actors at k s g)

-- and the start has it
pub none_counted : (n i : ℕ) → ◌≡◌ {A = ℕ} (get_or (replicate n 0) i 0) 0
none_counted zero i = refl
none_counted (suc n) zero = refl
none_counted (suc n) (suc i) = none_counted n i

pub start_going : (head : Head) (actors : List (List Op)) → IsScript head actors → IsGoing head actors (start head actors)
start_going head actors s = record {
  lawful = admissions_lawful head actors s.head_is s.few_seats;
  long = length-replicate (length actors) 0;
  roster = roster_first head actors;
  asked = λ i op f. absurd (still _ f);
  reads = λ i r. absurd (false≢true (sym (reading_first head actors (length (present head) + i)) ∙ r));
  within = λ i. let n = none_counted (length actors) i in omega (arith, n);
  readers = λ k r. absurd (false≢true (sym (reading_first head actors k) ∙ r));
}
  where
    still : (p : Pending) → IsInFlight (admissions head actors) p → ⊥
    still p (inl o) = none_some o.0 (sym (operation_first head actors) ∙ o.1)
    still p (inr r) = none_some r.0 (sym (registration_first head actors) ∙ r.1)

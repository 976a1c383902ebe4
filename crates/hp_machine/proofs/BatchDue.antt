-- Which entry is due from a seat in an upmany, and of which processor: the next of a walk, where it is the seat's, and its turn.
use Rattle.std.proofs.Common.{◌≡◌, ℕ, Bool, true, false, not, ◌&&◌, ◌||◌, cond, eqb, Option, Some, None, List, ◌⊎◌, inl, inr, refl, ap, sym, subst, ◌∙◌}
use Rattle.std.proofs.lemmas.Bool.{true≢false, false≢true, eqb-true, eq-eqb}
use Rattle.hp_states.proofs.Basics.{unequal_turned, none_some, same_some}
use Rattle.hp_states.specs.declared.dir.Dir.{Dir}
use Rattle.hp_event.specs.declared.how.How.{How}
use Rattle.hp_event.specs.declared.head.Head.{Head}
use Rattle.hp_event.specs.declared.event.Event.{Event}
use Rattle.hp_event.specs.declared.event.Event.TheVariants.{Call}
use Rattle.hp_event.specs.declared.event.Role.TheVariants.{Ap}
use Rattle.hp_model.specs.Batch.{is_upmany}
use Rattle.hp_model.specs.BatchTurn.{turn_of, is_it, brings_up, has_turn}
use Rattle.hp_model.specs.Caller.{is_made_by_ap}
use Rattle.hp_model.specs.Events.{seat_of, is_call}
use Rattle.hp_model.specs.Lawful.{Stands, Comes, IsLawful}
use Rattle.hp_model.specs.Lent.{cpu_of}
use Rattle.hp_model.specs.MapLock.{Operation, operation}
use Rattle.hp_model.specs.NextEvent.{due_entry}
use Rattle.hp_model.specs.NextInWalk.{next_of_walk}
use Rattle.hp_model.specs.Registrations.{registration}
use Rattle.hp_model.specs.SeatNext.{call_by, next_on}
use Rattle.hp_model.specs.Seats.{ap_seat, role_of}
use Rattle.hp_model.specs.StandsCalls.{InWalk, Calls}
use Rattle.hp_model.specs.Suspend.{held_by}
use Rattle.hp_model.specs.Walks.{Walk, walk, is_walking}
use Rattle.hp_model.proofs.DueGives.{due_stands, due_gives, due_nothing}
use Rattle.hp_model.proofs.OneNext.{owners}
use Rattle.hp_model.proofs.Owners.{Owners}
use Rattle.hp_model.proofs.SeatNext.{threads_due, holders_due}
use Rattle.hp_model.proofs.Stages.{called_by, ap_no_client}
use Rattle.hp_model.proofs.WalkGives.{gives_entry, walk_given}
use Rattle.hp_suspend.specs.declared.batch.Batch.{Batch as ABatch}
use Rattle.hp_account.specs.declared.under_way.NextStep.{NextStep}
use Rattle.hp_account.specs.declared.under_way.NextStep.TheVariants as coming
use Rattle.hp_account.specs.Batches.{IsKnown, IsUpmanyAt}
use Rattle.hp_account.specs.Entries.{entry_event}
use Rattle.hp_machine.specs.Next.{IsDue}
use Rattle.hp_account.specs.UnderWay.{due_by, IsDueOn}
use Rattle.hp_account.specs.NextStep.{end_event}
use Rattle.hp_account.specs.WalkComing.{event_of, IsOfWalk, IsNextOnIf}
use Rattle.hp_machine.proofs.DueSaid.{due_none}
use Rattle.hp_account.proofs.InBatch.{known_idle}

-- ---- the entry of one seat

-- the entry of a seat, of what comes next in a walk
picked : (head : Head) (es : List Event) (k c : ℕ) (w : Walk) (what : NextStep) → IsOfWalk head es c w what →
    due_entry head es k ≡ call_by k (event_of head es what) → IsDue head es k (due_by k (Some what))
picked head es k c w (coming.Entry client on None) p d = d
picked head es k c w (coming.Entry client on (Some x)) p d = go (eqb x.seat k) d
  where
    go : (b : Bool) → due_entry head es k ≡ cond b (Some (entry_event head es x)) None → IsDue head es k (cond b (Some x) None)
    go true h = h
    go false h = h
picked head es k c w (coming.End e) p d =
    d ∙ ap (λ b. cond (b && eqb (seat_of (end_event e)) k) (Some (end_event e)) None) p.1

-- where what is due from it comes next in the walk of a processor
due_in_walk : (head : Head) (es : List Event) (k c : ℕ) (what : Option NextStep) → IsNextOnIf head es c what →
    due_entry head es k ≡ call_by k (next_on head es (Some c)) → IsDue head es k (due_by k what)
due_in_walk head es k c None n d = d ∙ ap (λ w. call_by k (next_of_walk head es c w)) n
due_in_walk head es k c (Some what) n d = picked head es k c n.of what n.parts (d ∙ ap (call_by k) n.gives)

-- nothing is due from a seat that is neither the holder's nor a thread's whose processor walks
nobody_due : (head : Head) (es : List Event) (o : Operation) (k : ℕ) → IsLawful head es → operation es ≡ Some o →
    registration es ≡ None → (k ≡ o.seat → ⊥) → ((c : ℕ) (w : Walk) → ap_seat c es ≡ Some k → walk c es ≡ Some w → ⊥) →
    due_entry head es k ≡ None
nobody_due head es o k lawful held idle other rests = (due_nothing head es k).1 never
  where
    by : (cpu state inst : ℕ) (dir : Dir) (how : How) (i : InWalk head es k cpu state inst dir how) →
        (i.entry.of.seat ≡ k) ⊎ (ap_seat cpu es ≡ Some k) → ⊥
    by cpu state inst dir how i (inl s) =
        let p = (owners head es lawful).walk_op cpu i.entry.of i.entry.in_flight in
        let one : p.0 ≡ o = same_some p.0 o (sym p.1 ∙ held) in
        other (sym s ∙ (sym p.2 ∙ ap (λ z. z.seat) one))
    by cpu state inst dir how i (inr a) = rests cpu i.entry.of a i.entry.in_flight

    never : (cpu state inst : ℕ) (dir : Dir) (how : How) → Calls head es k cpu state inst dir how → ⊥
    never cpu state inst dir how (inl i) =
        by cpu state inst dir how i (called_by (is_made_by_ap state how) (ap_seat cpu es) i.entry.of.seat k i.caller_is)
    never cpu state inst dir how (inr r) = none_some r.entry.of (sym idle ∙ r.entry.in_flight)

pub nobodys_due : (head : Head) (es : List Event) (k holder : ℕ) (b : ABatch) → IsLawful head es → IsKnown head es →
    IsUpmanyAt head es holder b → (holder ≡ k → ⊥) → ((c : ℕ) → ap_seat c es ≡ Some k → ⊥) → IsDue head es k None
nobodys_due head es k holder b lawful known up other none =
    nobody_due head es up.of k lawful up.held (known_idle head es lawful known) (λ same. other (sym up.seat_is ∙ sym same))
    (λ c w a at. none c a)

-- what is due from a thread comes next in the walk of its processor
threads_next : (head : Head) (es : List Event) (o : Operation) (k c : ℕ) → IsLawful head es → IsKnown head es →
    operation es ≡ Some o → ap_seat c es ≡ Some k → due_entry head es k ≡ call_by k (next_on head es (Some c))
threads_next head es o k c lawful known held a = go (walk c es) refl
  where
    own : Owners es
    own = owners head es lawful

    same_role : (d : ℕ) → Some (Ap d) ≡ Some (Ap c) → d ≡ c
    same_role d h = cc

    apart : k ≡ o.seat → ⊥
    apart s = ap_no_client es c k own a (ap (λ z. role_of z es) s ∙ own.op_client o held)

    rests : walk c es ≡ None → (d : ℕ) (w : Walk) → ap_seat d es ≡ Some k → walk d es ≡ Some w → ⊥
    rests at d w b there =
        let s = same_role d (sym (own.ap_role d k b) ∙ own.ap_role c k a) in
        none_some w (sym at ∙ (ap (λ z. walk z es) (sym s) ∙ there))

    go : (v : Option Walk) → walk c es ≡ v → due_entry head es k ≡ call_by k (next_on head es (Some c))
    go None at =
        nobody_due head es o k lawful held (known_idle head es lawful known) apart (rests at)
        ∙ sym (ap (λ w. call_by k (next_of_walk head es c w)) at)
    go (Some w) at = threads_due head es lawful c k w a at

pub threads_entry : (head : Head) (es : List Event) (k holder c : ℕ) (b : ABatch) (what : Option NextStep) → IsLawful head es →
    IsKnown head es → IsUpmanyAt head es holder b → ap_seat c es ≡ Some k → IsNextOnIf head es c what → IsDue head es k (due_by k what)
threads_entry head es k holder c b what lawful known up a n =
    due_in_walk head es k c what n (threads_next head es up.of k c lawful known up.held a)

-- and what is due from the holder in that whose turn it is
holders : (head : Head) (es : List Event) (k : ℕ) (b : ABatch) (turn : Option ℕ) → IsLawful head es → IsUpmanyAt head es k b →
    turn_of head es k ≡ turn → due_entry head es k ≡ call_by k (next_on head es turn)
holders head es k b turn lawful up is =
    subst (λ s. due_entry head es s ≡ call_by s (next_on head es (turn_of head es s))) up.seat_is
    (holders_due head es lawful up.of up.held (ap is_upmany up.op_is))
    ∙ ap (λ z. call_by k (next_on head es z)) is

pub holders_none : (head : Head) (es : List Event) (k : ℕ) (b : ABatch) → IsLawful head es → IsUpmanyAt head es k b →
    turn_of head es k ≡ None → IsDue head es k None
holders_none head es k b lawful up is = holders head es k b None lawful up is

pub holders_entry : (head : Head) (es : List Event) (k c : ℕ) (b : ABatch) (what : Option NextStep) → IsLawful head es →
    IsUpmanyAt head es k b → turn_of head es k ≡ Some c → IsNextOnIf head es c what → IsDue head es k (due_by k what)
holders_entry head es k c b what lawful up is n = due_in_walk head es k c what n (holders head es k b (Some c) lawful up is)

-- where no upmany is in flight, and nothing is under way, none is
pub rests_due : (head : Head) (es : List Event) (k : ℕ) → IsKnown head es → held_by is_upmany (operation es) ≡ false →
    due_entry head es k ≡ None
rests_due head es k (inl n) single = due_none head es k n.none
rests_due head es k (inr b) single = absurd (false≢true (sym (ap (λ z. z && is_walking es) single) ∙ b))

-- ---- the entry of one processor

-- the next entry of a walk, which is a seat's that has the turn
pub record IsSeatsNext (head : Head) (es : List Event) (c k : ℕ) : Type 0 where
  pub entry : Event
  pub gives : next_of_walk head es c (walk c es) ≡ Some entry
  pub is_entry : is_call entry ≡ true
  pub seat_is : seat_of entry ≡ k
  pub cpu_is : cpu_of entry ≡ c
  pub turn : has_turn head es k c ≡ true

pub due_there : (head : Head) (es : List Event) (c k : ℕ) → registration es ≡ None → IsDueOn head es c k → IsSeatsNext head es c k
due_there head es c k idle d = let s = due_stands head es k d.entry d.due in go d.entry d.cpu_is s.0.0 s.1 s.2
  where
    made : (seat state inst : ℕ) (dir : Dir) (how : How) → Calls head es seat c state inst dir how → seat ≡ k → IsSeatsNext head es c k
    made seat state inst dir how (inl i) s =
        record {
          entry = Call seat c state inst dir how;
          gives = gives_entry head es seat c state inst dir how i;
          is_entry = refl;
          seat_is = s;
          cpu_is = refl;
          turn = ap (λ z. has_turn head es z c) (sym s) ∙ i.turn;
        }
    made seat state inst dir how (inr r) s = absurd (none_some r.entry.of (sym idle ∙ r.entry.in_flight))

    go : (e : Event) → cpu_of e ≡ c → Comes head es e → is_call e ≡ true → seat_of e ≡ k → IsSeatsNext head es c k
    go (Call seat cpu state inst dir how) at h call s =
        made seat state inst dir how (subst (λ z. Calls head es seat z state inst dir how) at h) s
    go e at h call s = absurd (true≢false (sym call))

pub there_due : (head : Head) (es : List Event) (c k : ℕ) → IsLawful head es → IsSeatsNext head es c k → IsDueOn head es c k
there_due head es c k lawful n = go (walk c es) refl
  where
    stands : (w : Walk) → walk c es ≡ Some w → Stands head es n.entry
    stands w at =
        let turn = ap (λ z. has_turn head es z c) n.seat_is ∙ n.turn in
        let g = walk_given head es c w n.entry at turn (ap (λ z. next_of_walk head es c z) (sym at) ∙ n.gives) in
        let none = g.takes_none in
        (g.comes, rw none refl)

    go : (v : Option Walk) → walk c es ≡ v → IsDueOn head es c k
    go None at = absurd (none_some n.entry (ap (λ z. next_of_walk head es c z) (sym at) ∙ n.gives))
    go (Some w) at =
        record {
          entry = n.entry;
          due = due_gives head es k n.entry lawful (stands w at) n.is_entry n.seat_is;
          cpu_is = n.cpu_is;
        }

pub turn_if : (head : Head) (es : List Event) (o : Operation) (k c : ℕ) → operation es ≡ Some o → is_upmany o.op ≡ true →
    has_turn head es k c ≡ (not (eqb k o.seat) || is_it c (turn_of head es o.seat))
turn_if head es o k c held u = ap (λ z. cond (brings_up k z) (is_it c (turn_of head es k)) true) held ∙ go (eqb o.seat k) refl
  where
    go : (b : Bool) → eqb o.seat k ≡ b →
        cond (b && is_upmany o.op) (is_it c (turn_of head es k)) true ≡ (not (eqb k o.seat) || is_it c (turn_of head es o.seat))
    go true s =
        let same = eqb-true o.seat k s in
        let own = eq-eqb k o.seat (sym same) in
        rw (u, own) (ap (λ z. is_it c (turn_of head es z)) (sym same))
    go false s = let other = unequal_turned o.seat k s in rw other refl

pub none_on : (head : Head) (es : List Event) (k c : ℕ) → due_entry head es k ≡ None → IsDueOn head es c k → ⊥
none_on head es k c none d = none_some d.entry (sym none ∙ d.due)

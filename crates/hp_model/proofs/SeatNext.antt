-- What comes next of a thread is in the walk of its processor, and of the seat of an upmany in that whose turn it is.
use Rattle.std.proofs.Common.{◌≡◌, ℕ, Bool, true, false, ◌&&◌, cond, eqb, is_some, Option, Some, None, List, refl, ap, sym, ◌∙◌, subst, inl, inr, ◌⊎◌}
use Rattle.std.proofs.lemmas.Bool.{false≢true, eqb-true, eq-eqb, and_parts}
use Rattle.hp_states.proofs.Basics.{none_some, same_some}
use Rattle.hp_states.specs.declared.dir.Dir.{Dir}
use Rattle.hp_event.specs.declared.how.How.{How}
use Rattle.hp_event.specs.declared.op.Op.{Op}
use Rattle.hp_event.specs.declared.head.Head.{Head}
use Rattle.hp_event.specs.declared.event.Event.{Event}
use Rattle.hp_event.specs.declared.event.Event.TheVariants.{Call}
use Rattle.hp_event.specs.declared.event.Role.TheVariants.{Client, Ap}
use Rattle.hp_model.specs.ApTurn.{IsApTurn}
use Rattle.hp_model.specs.BatchTurn.{has_turn, turn_of, lowest_walking}
use Rattle.hp_model.specs.Caller.{is_made_by_ap}
use Rattle.hp_model.specs.Events.{seat_of, is_call, BelongsTo}
use Rattle.hp_model.specs.Lawful.{Stands, IsLawful}
use Rattle.hp_model.specs.Lists.{among, numbers}
use Rattle.hp_model.specs.MapLock.{is_map_op}
use Rattle.hp_model.specs.Moves.{IsOfThread}
use Rattle.hp_model.specs.NextEvent.{due_entry}
use Rattle.hp_model.specs.NextInWalk.{next_of_walk}
use Rattle.hp_model.specs.Registrations.{registration}
use Rattle.hp_model.specs.SeatNext.{call_by, next_on, IsThreadsDue, IsHoldersDue, IsHoldersNext, IsHoldersWait}
use Rattle.hp_model.specs.Seats.{ap_seat, role_of}
use Rattle.hp_model.specs.StandsCalls.{InWalk, InRegistration, Calls}
use Rattle.hp_model.specs.Walks.{Walk, walk, walking}
use Rattle.hp_model.proofs.BatchNext.{none_own}
use Rattle.hp_model.proofs.DueGives.{due_gives, due_nothing, call_belongs}
use Rattle.hp_model.proofs.InFlight.{walking_is}
use Rattle.hp_model.proofs.Kept.{WalkKept}
use Rattle.hp_model.proofs.NextGives.{next_gives}
use Rattle.hp_model.proofs.Owners.{Owners}
use Rattle.hp_model.proofs.Passing.{find_holds}
use Rattle.hp_model.proofs.SomeMoves.{facts, entered_op}
use Rattle.hp_model.proofs.Stages.{called_by, ap_no_client}
use Rattle.hp_model.proofs.TurnLemmas.{OwnEvent, is_turn, turn_is, turn_own, thread_turn, held_up_is}
use Rattle.hp_model.proofs.Errands.{Given}
use Rattle.hp_model.proofs.WalkGives.{gives_entry, walk_given}
use Rattle.hp_model.proofs.OneNext.{owners}
use Rattle.hp_model.proofs.Induction.{kept}

-- while a processor walks no registration is in flight
no_registration : (head : Head) (xs : List Event) (c : ℕ) (w : Walk) → IsLawful head xs → walk c xs ≡ Some w → registration xs ≡ None
no_registration head xs c w lawful at = (walk_kept (rw at at ((kept head xs lawful).at c).kept)).no_registration
  where
    walk_kept : WalkKept head c w xs → WalkKept head c w xs
    walk_kept k = k

-- what is due from a seat all of whose entries come next in one walk
due_from : (head : Head) (xs : List Event) (k c : ℕ) (w : Walk) → IsLawful head xs → walk c xs ≡ Some w → has_turn head xs k c ≡ true →
    ((cpu state inst : ℕ) (dir : Dir) (how : How) → Calls head xs k cpu state inst dir how →
    next_of_walk head xs c (walk c xs) ≡ Some (Call k cpu state inst dir how)) →
    due_entry head xs k ≡ call_by k (next_of_walk head xs c (walk c xs))
due_from head xs k c w lawful at turn given = go (next_of_walk head xs c (walk c xs)) refl
  where
    nothing : ((y : Event) → next_of_walk head xs c (walk c xs) ≡ Some y → (is_call y && eqb (seat_of y) k) ≡ true → ⊥) →
        due_entry head xs k ≡ None
    nothing never =
        (due_nothing head xs k).1
        (λ cpu state inst dir how h. never (Call k cpu state inst dir how) (given cpu state inst dir how h) (eq-eqb k k refl))

    pick : (x : Event) → next_of_walk head xs c (walk c xs) ≡ Some x → (b : Bool) → (is_call x && eqb (seat_of x) k) ≡ b →
        due_entry head xs k ≡ cond b (Some x) None
    pick x e true q =
        let p = and_parts (is_call x) (eqb (seat_of x) k) q in
        let s = eqb-true (seat_of x) k p.1 in
        let g =
        walk_given head xs c w x at (subst (λ z. has_turn head xs z c ≡ true) (sym s) turn)
        (ap (λ z. next_of_walk head xs c z) (sym at) ∙ e)
        in
        let n = g.takes_none in
        due_gives head xs k x lawful (g.comes, rw n refl) p.0 s
    pick x e false q =
        nothing
        (λ y f g.
        let same : y ≡ x = same_some y x (sym f ∙ e) in
        false≢true (sym q ∙ subst (λ z. (is_call z && eqb (seat_of z) k) ≡ true) same g))

    go : (v : Option Event) → next_of_walk head xs c (walk c xs) ≡ v → due_entry head xs k ≡ call_by k v
    go None e = nothing (λ y f g. none_some y (sym e ∙ f))
    go (Some x) e = pick x e (is_call x && eqb (seat_of x) k) refl

-- a thread's
pub threads_due : (head : Head) (xs : List Event) → IsLawful head xs → IsThreadsDue head xs
threads_due head xs lawful c k w a at = due_from head xs k c w lawful at (thread_turn head xs c c k own a) given
  where
    own : Owners xs
    own = owners head xs lawful

    same_role : (d : ℕ) → Some (Ap d) ≡ Some (Ap c) → d ≡ c
    same_role d h = cc

    by : (cpu state inst : ℕ) (dir : Dir) (how : How) (i : InWalk head xs k cpu state inst dir how) →
        (i.entry.of.seat ≡ k) ⊎ (ap_seat cpu xs ≡ Some k) → cpu ≡ c
    by cpu state inst dir how i (inl s) =
        let p = own.walk_op cpu i.entry.of i.entry.in_flight in
        let client : role_of p.0.seat xs ≡ Some Client = own.op_client p.0 p.1 in
        absurd (ap_no_client xs c k own a (subst (λ z. role_of z xs ≡ Some Client) (p.2 ∙ s) client))
    by cpu state inst dir how i (inr b) = same_role cpu (sym (own.ap_role cpu k b) ∙ own.ap_role c k a)

    given : (cpu state inst : ℕ) (dir : Dir) (how : How) → Calls head xs k cpu state inst dir how →
        next_of_walk head xs c (walk c xs) ≡ Some (Call k cpu state inst dir how)
    given cpu state inst dir how (inl i) =
        let same = by cpu state inst dir how i (called_by (is_made_by_ap state how) (ap_seat cpu xs) i.entry.of.seat k i.caller_is) in
        subst (λ z. next_of_walk head xs z (walk z xs) ≡ Some (Call k cpu state inst dir how)) same
        (gives_entry head xs k cpu state inst dir how i)
    given cpu state inst dir how (inr r) =
        absurd (none_some r.entry.of (sym (no_registration head xs c w lawful at) ∙ r.entry.in_flight))

-- the seat's of an upmany
pub holders_due : (head : Head) (xs : List Event) → IsLawful head xs → IsHoldersDue head xs
holders_due head xs lawful o held u = go (turn_of head xs o.seat) refl
  where
    own : Owners xs
    own = owners head xs lawful

    never : (cpu state inst : ℕ) (dir : Dir) (how : How) (r : InRegistration head xs o.seat cpu state inst dir how) →
        (r.entry.of.seat ≡ o.seat) ⊎ (ap_seat cpu xs ≡ Some o.seat) → ⊥
    never cpu state inst dir how r (inl s) = own.apart o r.entry.of held r.entry.in_flight (sym s)
    never cpu state inst dir how r (inr a) = ap_no_client xs cpu o.seat own a (own.op_client o held)

    turned : (cpu state inst : ℕ) (dir : Dir) (how : How) → Calls head xs o.seat cpu state inst dir how →
        (turn_of head xs o.seat ≡ Some cpu)
        × (next_of_walk head xs cpu (walk cpu xs) ≡ Some (Call o.seat cpu state inst dir how))
    turned cpu state inst dir how (inl i) =
        (turn_is head xs o o.seat cpu held refl u i.turn, gives_entry head xs o.seat cpu state inst dir how i)
    turned cpu state inst dir how (inr r) =
        absurd (never cpu state inst dir how r
        (called_by (is_made_by_ap state how) (ap_seat cpu xs) r.entry.of.seat o.seat r.caller_is))

    go : (v : Option ℕ) → turn_of head xs o.seat ≡ v → due_entry head xs o.seat ≡ call_by o.seat (next_on head xs v)
    go None t =
        (due_nothing head xs o.seat).1
        (λ cpu state inst dir how h. none_some cpu (sym t ∙ (turned cpu state inst dir how h).0))
    go (Some c) t =
        let n = turn_own head xs o.seat c t in
        due_from head xs o.seat c n.of lawful n.in_flight (is_turn head xs o.seat c t)
        (λ cpu state inst dir how h.
        let q = turned cpu state inst dir how h in
        let same : cpu ≡ c = same_some cpu c (sym q.0 ∙ t) in
        subst (λ z. next_of_walk head xs z (walk z xs) ≡ Some (Call o.seat cpu state inst dir how)) same q.1)

pub holders_next : (head : Head) (xs : List Event) → IsLawful head xs → IsHoldersNext head xs
holders_next head xs lawful o p c a held s u t =
    next_gives head xs p n.event lawful a stands n.by (belongs given.by) ∙ sym n.gives
  where
    n : OwnEvent head xs p.seat c
    n = turn_own head xs p.seat c t

    given : Given head xs n.of.seat is_map_op n.event
    given =
        walk_given head xs c n.of n.event n.in_flight
        (subst (λ z. has_turn head xs z c ≡ true) (sym n.by) (is_turn head xs p.seat c t))
        (ap (λ z. next_of_walk head xs c z) (sym n.in_flight) ∙ n.gives)

    stands : Stands head xs n.event
    stands = let none = given.takes_none in (given.comes, rw none refl)

    is : is_map_op p.op ≡ true
    is =
        let same : o.op ≡ p.op = a.same o.op (inl (o, held, s, refl)) in
        subst (λ z. is_map_op z ≡ true) same (entered_op head xs o (facts head xs lawful).operations held)

    belongs : ((seat_of n.event ≡ n.of.seat) × ((op : Op) → is_map_op op ≡ true → BelongsTo op n.event)) ⊎ IsOfThread xs n.event →
        BelongsTo p.op n.event
    belongs (inl b) = b.1 p.op is
    belongs (inr b) = call_belongs p.op n.event b.2

pub holders_wait : (head : Head) (xs : List Event) → IsLawful head xs → IsHoldersWait head xs
unfolding lowest_walking
holders_wait head xs lawful o c held u left none lowest = go (walk c xs) refl (sym (walking_is c xs) ∙ there)
  where
    own : Owners xs
    own = owners head xs lawful

    there : among c (walking xs) ≡ true
    there = find_holds (λ c. among c (walking xs)) c (numbers head.possible) lowest

    go : (v : Option Walk) → walk c xs ≡ v → is_some v ≡ true → IsApTurn head xs o.seat c
    go None at h = absurd (false≢true h)
    go (Some w) at h =
        let t = none_own head xs o c w own (kept head xs lawful) held left none at in
        let q = own.walk_op c w at in
        let one : q.0 ≡ o = same_some q.0 o (sym q.1 ∙ held) in
        let seat : t.next.entry.of.seat ≡ o.seat = t.next.client_is ∙ (sym q.2 ∙ ap (λ z. z.seat) one) in
        record {
          state = t.next.state;
          inst = t.next.inst;
          dir = t.next.dir;
          how = t.next.how;
          entry = inl (t.next.entry, seat);
          by_thread = t.by_thread;
          held_up = held_up_is head xs o.seat c left none lowest;
        }

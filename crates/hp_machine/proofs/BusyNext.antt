-- What comes next of a seat that has an operation in flight, as what is under way and the holder of the map lock say it.
use Rattle.std.proofs.Common.{◌≡◌, ℕ, ◌+◌, ◌<◌, ◌≤◌, Bool, true, false, cond, eqb, ◌&&◌, ◌||◌, not, is_some, Option, Some, None, IfSome, List, [], ◌∷◌, find, length, ◌⊎◌, refl, ap, sym, ◌∙◌, subst, inl, inr, arith}
use Rattle.std.specs.Prelude.{option_map}
use Rattle.std.proofs.lemmas.Bool.{true≢false, eq-eqb, eqb-true}
use Rattle.hp_model.proofs.EntryStays.{walk_kept}
use Rattle.hp_states.proofs.Basics.{same_some, none_some}
use Rattle.hp_states.specs.CpuSets.{HasNoneFrom}
use Rattle.hp_states.specs.declared.limits.TheConstants.{MAX_EVENTS}
use Rattle.hp_event.specs.declared.op.Op.{Op}
use Rattle.hp_event.specs.declared.op.Op.TheVariants as op
use Rattle.hp_event.specs.declared.answer.Answer.{Answer}
use Rattle.hp_event.specs.declared.answer.Answer.TheVariants.{LogFull}
use Rattle.hp_event.specs.declared.head.Head.{Head}
use Rattle.hp_event.specs.declared.event.Event.{Event}
use Rattle.hp_event.specs.declared.event.Event.TheVariants.{WalkBegin, OpEnd}
use Rattle.hp_locks.specs.declared.why.Why.{Why}
use Rattle.hp_locks.specs.declared.why.Why.TheVariants.{ApTurn}
use Rattle.hp_model.specs.ApTurn.{IsApTurn}
use Rattle.hp_model.specs.Batch.{is_upmany}
use Rattle.hp_model.specs.Lists.{is_empty}
use Rattle.hp_model.specs.Events.{seat_of}
use Rattle.hp_model.specs.Lawful.{IsLawful}
use Rattle.hp_model.specs.MapLock.{Operation, operation}
use Rattle.hp_model.specs.Needs.{need, taken}
use Rattle.hp_model.specs.NextEvent.{next_of_holder, event_of_holder, next_in_flight, next_event, walk_or_end, walk_begin}
use Rattle.hp_model.specs.Promised.{promised}
use Rattle.hp_model.specs.Registrations.{Registration, registration}
use Rattle.hp_model.specs.Room.{has_room}
use Rattle.hp_model.specs.Seats.{holds_map, registers, is_busy}
use Rattle.hp_model.specs.SeatWaits.{wait, wait_before, wait_of_holder}
use Rattle.hp_model.specs.Sequence.{Next as Sequel, walks, ends, next, is_between}
use Rattle.hp_model.specs.Settled.{settled}
use Rattle.hp_model.specs.StandsOperations.{WalkBegins}
use Rattle.hp_model.specs.UnderWay.{under_way}
use Rattle.hp_model.specs.Waits.{Wait, wait_to_begin, wait_to_walk}
use Rattle.hp_model.specs.Suspend.{held_by as held_by_op}
use Rattle.hp_model.specs.Walks.{walk, walking, is_walking}
use Rattle.hp_model.proofs.BatchLemmas.{between_rest}
use Rattle.hp_model.proofs.OneNext.{owners}
use Rattle.hp_model.proofs.RoomKept.{promises_fit}
use Rattle.hp_model.proofs.SomeMoves.{some_of}
use Rattle.hp_suspend.specs.declared.batch.Batch.{Batch as ABatch}
use Rattle.hp_suspend.proofs.Few.{thawing_few, booting_few, batching_few}
use Rattle.hp_account.specs.declared.under_way.NextStep.{NextStep}
use Rattle.hp_account.specs.declared.under_way.NextStep.TheVariants as coming
use Rattle.hp_account.specs.declared.operation.MapOperation.{MapOperation}
use Rattle.hp_account.specs.declared.operation.Walks.{Walks}
use Rattle.hp_account.specs.declared.operation.Walks.TheVariants.{Single, Freeze, Thaw, Boot, Batch, NoWalk}
use Rattle.hp_machine.specs.declared.next.Next.TheVariants as answer
use Rattle.hp_table.specs.Step.{Step}
use Rattle.hp_account.specs.declared.account.Account.{Account}
use Rattle.hp_account.specs.Account.{IsAccount}
use Rattle.hp_account.specs.Batches.{batch_of, IsWalking as IsBatchWalking}
use Rattle.hp_machine.specs.Upmany.{IsHoldersTurn}
use Rattle.hp_machine.specs.Between.{IsBetween, Gives}
use Rattle.hp_account.specs.NextStep.{IsInFlightOf, IsByThread, end_event}
use Rattle.hp_account.specs.Entries.{entry_event}
use Rattle.hp_account.specs.Locks.{why_of}
use Rattle.hp_machine.specs.Next.{IsNext, IsKept, next_by}
use Rattle.hp_account.specs.Operations.{AreWalks, IsFew, IsHeld}
use Rattle.hp_account.specs.Table.{IsTableOf}
use Rattle.hp_account.specs.UnderWay.{IsUnderWay, is_batch_walking}
use Rattle.hp_machine.specs.Room.{CountsKeys}
use Rattle.hp_machine.proofs.FirstSaid.{why_said, room_said, no_room_said}
use Rattle.hp_account.proofs.FlightFacts.{none_walks}
use Rattle.hp_account.proofs.FlightFacts.{walks as walks_by}
use Rattle.hp_account.proofs.InBatch.{of_batch, not_batch, walk_walking, lowest_here}
use Rattle.hp_account.proofs.WalkMoves.{walk_begins}
use Rattle.hp_machine.proofs.HolderRests.{holder_busy, held_up_rests, not_full}
use Rattle.hp_machine.proofs.KeysCounted.{event_counts}

-- of a seat with an operation in flight, what comes next doesn't ask which it is, and it has its room
next_is : (head : Head) (es : List Event) (k : ℕ) (op : Op) (e : Option Event) → is_busy k es ≡ true → next_in_flight head es k ≡ e →
    next_event head es k op ≡ e
unfolding next_event
next_is head es k op e busy is = rw busy is

-- what is under way is the seat's, or the holder of the map lock goes on
abbrev of_seat : (k : ℕ) → List Event → Option Event
of_seat k es = find (λ e. eqb (seat_of e) k) es

pub found : (head : Head) (es : List Event) (k : ℕ) (op : Op) (e : Event) → is_busy k es ≡ true → under_way head es ≡ e ∷ [] →
    eqb (seat_of e) k ≡ true → next_event head es k op ≡ Some e
found head es k op e busy only own = next_is head es k op (Some e) busy (rw (only, own) refl)

not_found : (head : Head) (es : List Event) (k : ℕ) (op : Op) (e : Option Event) → is_busy k es ≡ true →
    of_seat k (under_way head es) ≡ None → next_of_holder head es k (operation es) ≡ e → next_event head es k op ≡ e
not_found head es k op e busy none holder = next_is head es k op e busy (rw none holder)

of_other : (head : Head) (es : List Event) (k : ℕ) (e : Event) → under_way head es ≡ e ∷ [] → eqb (seat_of e) k ≡ false →
    of_seat k (under_way head es) ≡ None
of_other head es k e only other = rw (only, other) refl

of_nobody : (head : Head) (es : List Event) (k : ℕ) → under_way head es ≡ [] → of_seat k (under_way head es) ≡ None
of_nobody head es k only = rw only refl

-- nothing comes next of a seat as the holder of the map lock that isn't that
other_holder : (head : Head) (es : List Event) (k : ℕ) → (o : Option Operation) → holds_map k o ≡ false → next_of_holder head es k o ≡ None
other_holder head es k None h = refl
other_holder head es k (Some o) h = rw h refl

differs : (a b : ℕ) → (a ≡ b → ⊥) → eqb a b ≡ false
differs a b h = go (eqb a b) refl
  where
    go : (t : Bool) → eqb a b ≡ t → eqb a b ≡ false
    go true e = absurd (h (eqb-true a b e))
    go false e = e

-- the client waits for the thread of a processor
waits_for_thread : (head : Head) (es : List Event) (k cpu : ℕ) (op : Op) → IsLawful head es → is_busy k es ≡ true → IsInFlightOf es k →
    of_seat k (under_way head es) ≡ None → IsApTurn head es k cpu → IsKept head es k op (ApTurn cpu)
waits_for_thread head es k cpu op lawful busy flies none turn = record {
  no_event = rests flies;
  not_full = not_full head es k op busy;
  why_is = turn;
}
  where
    no_map : (r : Registration) → registration es ≡ Some r → r.seat ≡ k → (o : Option Operation) → operation es ≡ o →
        holds_map k o ≡ false
    no_map r at s None e = refl
    no_map r at s (Some o) e = differs o.seat k (λ same. (owners head es lawful).apart o r e at (same ∙ sym s))

    rests : IsInFlightOf es k → next_event head es k op ≡ None
    rests (inl f) =
        let p = (owners head es lawful).walk_op f.0 f.1 f.2 in
        let own : p.0.seat ≡ k = p.2 ∙ f.3 in
        subst (λ z. next_event head es z op ≡ None) own
        (held_up_rests head es p.0 cpu op lawful p.1 (subst (λ z. IsApTurn head es z cpu) (sym own) turn))
    rests (inr f) =
        not_found head es k op None busy none (other_holder head es k (operation es) (no_map f.0 f.1 f.2 (operation es) refl))

-- what is under way and the seat's is what comes next of it
pub in_flight_said : (head : Head) (es : List Event) (k : ℕ) (what : Option NextStep) → IsLawful head es → is_busy k es ≡ true →
    IsUnderWay head es what → IfSome (next_by k what) (λ n. (op : Op) → IsNext head es k op n)
in_flight_said head es k None lawful busy is = tt
in_flight_said head es k (Some (coming.End e)) lawful busy is = go (eqb (seat_of (end_event e)) k) refl
  where
    go : (own : Bool) → eqb (seat_of (end_event e)) k ≡ own →
        IfSome (cond own (Some (answer.Event (end_event e) 0)) None) (λ n. (op : Op) → IsNext head es k op n)
    go true own = λ op. (found head es k op (end_event e) busy is.only own, rw is.takes_none refl, is.no_entry)
    go false own = tt
in_flight_said head es k (Some (coming.Entry client cpu None)) lawful busy is = go (eqb client k) refl
  where
    go : (own : Bool) → eqb client k ≡ own →
        IfSome (cond own (Some (answer.Wait (ApTurn cpu))) None) (λ n. (op : Op) → IsNext head es k op n)
    go true own = λ op.
        let same = eqb-true client k own in
        waits_for_thread head es k cpu op lawful busy (subst (IsInFlightOf es) same is.of_client) (of_nobody head es k is.none)
        (subst (λ n. IsApTurn head es n cpu) same is.turn)
    go false own = tt
in_flight_said head es k (Some (coming.Entry client cpu (Some x))) lawful busy is = go (eqb x.seat k) (eqb client k) refl refl
  where
    go : (made own : Bool) → eqb x.seat k ≡ made → eqb client k ≡ own →
        IfSome (cond made (Some (answer.Entry x)) (cond own (Some (answer.Wait (ApTurn cpu))) None))
        (λ n. (op : Op) → IsNext head es k op n)
    go true own m o = λ op. found head es k op (entry_event head es x) busy is.only m
    go false false m o = tt
    go false true m o = λ op. by op is.made_by
      where
        same : client ≡ k
        same = eqb-true client k o

        by : (op : Op) → (x.seat ≡ client) ⊎ IsByThread head es client cpu x.seat → IsKept head es k op (ApTurn cpu)
        by op (inl h) = absurd (true≢false (sym (eq-eqb x.seat k (h ∙ same)) ∙ m))
        by op (inr h) =
            waits_for_thread head es k cpu op lawful busy (subst (IsInFlightOf es) same is.of_client)
            (of_other head es k (entry_event head es x) is.only m) (subst (λ n. IsApTurn head es n cpu) same h.turn)

-- where it isn't the seat's, the seat holds the map lock between walks
holds_then : (es : List Event) (k : ℕ) → is_busy k es ≡ true → registers k (registration es) ≡ false → holds_map k (operation es) ≡ true
holds_then es k busy other = go (holds_map k (operation es)) (rw other at busy)
  where
    go : (b : Bool) → (b || false) ≡ true → b ≡ true
    go true h = refl
    go false h = h

between : (head : Head) (es : List Event) (k : ℕ) → holds_map k (operation es) ≡ true → walking es ≡ [] →
    of_seat k (under_way head es) ≡ None → IsBetween head es k
between head es k holds still none = go (operation es) refl holds
  where
    go : (o : Option Operation) → operation es ≡ o → holds_map k o ≡ true → IsBetween head es k
    go None e h = absurd (true≢false (sym h))
    go (Some o) e h = record { of = o; held = e; seat_is = eqb-true o.seat k h; no_walk = still; none = none }

-- another's walk or registration is in flight
beside : (head : Head) (es : List Event) (k client : ℕ) → IsLawful head es → is_busy k es ≡ true → eqb client k ≡ false →
    of_seat k (under_way head es) ≡ None → IsInFlightOf es client → IsBetween head es k
beside head es k client lawful busy other none (inl f) =
    let o = (owners head es lawful).walk_op f.0 f.1 f.2 in
    let no_map : holds_map k (operation es) ≡ false =
    rw o.1 (ap (λ n. eqb n k) (o.2 ∙ f.3) ∙ other) in
    let idle = (walk_kept head es f.0 f.1 lawful f.2).no_registration in
    let held = holds_then es k busy (rw idle refl) in
    absurd (true≢false (sym held ∙ no_map))
beside head es k client lawful busy other none (inr f) =
    let free : registers k (registration es) ≡ false = rw f.1 (ap (λ n. eqb n k) f.2 ∙ other) in
    between head es k (holds_then es k busy free) f.3 none

-- of an upmany that walks the holder goes on
pub between_said : (head : Head) (es : List Event) (k : ℕ) (what : Option NextStep) → IsLawful head es → is_busy k es ≡ true →
    IsUnderWay head es what → is_batch_walking es ≡ false → next_by k what ≡ None → IsBetween head es k
between_said head es k None lawful busy (inl is) rests h =
    let idle = is.no_registration in
    between head es k (holds_then es k busy (rw idle refl)) is.no_walk (of_nobody head es k is.none)
between_said head es k None lawful busy (inr there) rests h = absurd (true≢false (sym there ∙ rests))
between_said head es k (Some (coming.End e)) lawful busy is rests h = go (eqb (seat_of (end_event e)) k) refl h
  where
    go : (own : Bool) → eqb (seat_of (end_event e)) k ≡ own → cond own (Some (answer.Event (end_event e) 0)) None ≡ None →
        IsBetween head es k
    go true own n = absurd (none_some (answer.Event (end_event e) 0) (sym n))
    go false own n =
        beside head es k (seat_of (end_event e)) lawful busy own (of_other head es k (end_event e) is.only own) is.of_client
between_said head es k (Some (coming.Entry client cpu None)) lawful busy is rests h = go (eqb client k) refl h
  where
    go : (own : Bool) → eqb client k ≡ own → cond own (Some (answer.Wait (ApTurn cpu))) None ≡ None → IsBetween head es k
    go true own n = absurd (none_some (answer.Wait (ApTurn cpu)) (sym n))
    go false own n = beside head es k client lawful busy own (of_nobody head es k is.none) is.of_client
between_said head es k (Some (coming.Entry client cpu (Some x))) lawful busy is rests h = go (eqb x.seat k) (eqb client k) refl refl h
  where
    go : (made own : Bool) → eqb x.seat k ≡ made → eqb client k ≡ own →
        cond made (Some (answer.Entry x)) (cond own (Some (answer.Wait (ApTurn cpu))) None) ≡ None → IsBetween head es k
    go true own m o n = absurd (none_some (answer.Entry x) (sym n))
    go false true m o n = absurd (none_some (answer.Wait (ApTurn cpu)) (sym n))
    go false false m o n =
        beside head es k client lawful busy o (of_other head es k (entry_event head es x) is.only m) is.of_client

-- what comes next of the holder of the map lock between walks
between_busy : (head : Head) (es : List Event) (k : ℕ) → IsBetween head es k → is_busy k es ≡ true
between_busy head es k b = subst (λ z. is_busy z es ≡ true) b.seat_is (holder_busy es b.of b.held)

-- it may begin a walk
goes : (es : List Event) (k : ℕ) (o : Operation) → o.seat ≡ k → walking es ≡ [] → (eqb o.seat k && is_between o.op es) ≡ true
goes es k o s still =
    let own = eq-eqb o.seat k s in
    let free = between_rest o.op es (rw still refl) in
    rw (own, free) refl

holder_next : (head : Head) (es : List Event) (k : ℕ) (op : Op) (what : Sequel) → Gives head es k what →
    next_event head es k op ≡ event_of_holder head es k what
holder_next head es k op what g =
    let b = g.between in
    let free = goes es k b.of b.seat_is b.no_walk in
    not_found head es k op (event_of_holder head es k what) (between_busy head es k b) b.none
    (ap (next_of_holder head es k) b.held
    ∙ (ap (λ z. cond z (event_of_holder head es k (next head es b.of.before b.of.op)) None) free ∙ ap (event_of_holder head es k) g.what_is))

pub end_said : (head : Head) (es : List Event) (k : ℕ) (given : Answer) → Gives head es k (ends given) →
    (op : Op) → IsNext head es k op (answer.Event (OpEnd k given) 0)
end_said head es k given g op = (holder_next head es k op (ends given) g, refl, refl)

pub wait_said : (head : Head) (es : List Event) (k cpu to : ℕ) (why : Why) → Gives head es k (walks cpu to) →
    Some why ≡ option_map why_of (wait_to_walk es) → (op : Op) → IsNext head es k op (answer.Wait why)
wait_said head es k cpu to why g is op =
    record {
      no_event = holder_next head es k op (walks cpu to) g ∙ kept_out (wait_to_walk es) is;
      not_full = not_full head es k op busy;
      why_is = why_said head es k op why (wait_to_walk es) (rw busy refl) waits is;
    }
  where
    busy : is_busy k es ≡ true
    busy = between_busy head es k g.between

    kept_out : (w : Option Wait) → Some why ≡ option_map why_of w →
        cond (is_some w) None (Some (walk_begin head es k cpu (settled cpu es) to)) ≡ None
    kept_out None h = absurd (none_some why (sym h))
    kept_out (Some w) h = refl

    waits : wait head es k op ≡ wait_to_walk es
    waits =
        let b = g.between in
        let free = goes es k b.of b.seat_is b.no_walk in
        ap (λ z. cond z (wait_of_holder head es k (operation es)) (wait_to_begin es op)) busy
        ∙ (ap (wait_of_holder head es k) b.held
        ∙ (ap (λ z. cond z (wait_before es (next head es b.of.before b.of.op)) None) free ∙ ap (wait_before es) g.what_is))

walk_next : (head : Head) (es : List Event) (k cpu from to : ℕ) (op : Op) (room : Bool) → Gives head es k (walks cpu to) →
    wait_to_walk es ≡ None → from ≡ settled cpu es → has_room head es (WalkBegin k cpu from to) ≡ room →
    next_event head es k op ≡ Some (walk_or_end room k cpu from to)
walk_next head es k cpu from to op room g ready stands fits =
    subst (λ n. next_event head es k op ≡ Some (walk_or_end room k cpu n to)) (sym stands)
    (holder_next head es k op (walks cpu to) g
    ∙ rw (ready, subst (λ n. has_room head es (WalkBegin k cpu n to) ≡ room) stands fits) refl)

pub walk_said : (head : Head) (es : List Event) (k cpu from to room takes : ℕ) → room + length es + promised head es ≡ MAX_EVENTS →
    Gives head es k (walks cpu to) → wait_to_walk es ≡ None → from ≡ settled cpu es →
    takes ≡ taken (need head es (WalkBegin k cpu from to)) → takes ≤ room →
    (op : Op) → IsNext head es k op (answer.Event (WalkBegin k cpu from to) takes)
walk_said head es k cpu from to room takes is g ready stands at few op = (
  walk_next head es k cpu from to op true g ready stands (room_said head es (need head es (WalkBegin k cpu from to)) room is (omega (arith, at, few))),
  at,
  refl,
)

pub full_said : (head : Head) (es : List Event) (k cpu from to room takes : ℕ) → room + length es + promised head es ≡ MAX_EVENTS →
    Gives head es k (walks cpu to) → wait_to_walk es ≡ None → from ≡ settled cpu es →
    takes ≡ taken (need head es (WalkBegin k cpu from to)) → room < takes →
    (op : Op) → IsNext head es k op (answer.Event (OpEnd k LogFull) 0)
full_said head es k cpu from to room takes is g ready stands at many op = (
  walk_next head es k cpu from to op false g ready stands
      (no_room_said head es (need head es (WalkBegin k cpu from to)) room is (omega (arith, at, many))),
  refl,
  refl,
)

-- the walk that comes next begins
walk_comes : (head : Head) (es : List Event) (k cpu to : ℕ) → Gives head es k (walks cpu to) → wait_to_walk es ≡ None →
    WalkBegins head es k cpu (settled cpu es) to
walk_comes head es k cpu to g ready =
    let b = g.between in
    let still = b.no_walk in
    record {
      of = b.of;
      held = b.held;
      seat_is = b.seat_is;
      between = between_rest b.of.op es (rw still refl);
      gives = g.what_is;
      from_is = refl;
      no_wait = ready;
    }

-- so its processor is a possible one, and the table has what it crosses
pub walk_inside : (head : Head) (es : List Event) (k cpu to : ℕ) → IsLawful head es → Gives head es k (walks cpu to) →
    wait_to_walk es ≡ None → cpu < head.possible
walk_inside head es k cpu to lawful g ready =
    (walk_begins head es k cpu (settled cpu es) to lawful (walk_comes head es k cpu to g ready)).inside

pub walk_counts : (head : Head) (es : List Event) (k cpu from to : ℕ) (places : List (Option Step)) → IsLawful head es →
    IsTableOf head es places → Gives head es k (walks cpu to) → wait_to_walk es ≡ None → CountsKeys head es places (WalkBegin k cpu from to)
walk_counts head es k cpu from to places lawful t g ready =
    event_counts head es places (WalkBegin k cpu (settled cpu es) to) lawful t (walk_comes head es k cpu to g ready)

pub held_by : (head : Head) (es : List Event) (k : ℕ) (h : MapOperation) → IsBetween head es k → IsHeld head es h → k ≡ h.seat
held_by head es k h b is =
    sym b.seat_is ∙ ap (λ (o : Operation). o.seat) (same_some b.of is.of (sym b.held ∙ is.held)) ∙ sym is.seat_is

pub nobody_holds : (head : Head) (es : List Event) (k : ℕ) → IsBetween head es k → operation es ≡ None → ⊥
nobody_holds head es k b is = none_some b.of (sym is ∙ b.held)

pub few_walks : (head : Head) (es : List Event) (h : MapOperation) → IsLawful head es → IsHeld head es h → IsFew h.sequence
few_walks head es h lawful is = go is.of.op h.sequence is.sequence_is
  where
    fits : length es ≤ MAX_EVENTS
    fits = let p = promises_fit head es lawful in omega (arith, p)

    go : (asked : Op) (s : Walks) → AreWalks head is.of.before es asked s → IsFew s
    go asked (Single w) q = tt
    go asked (Freeze f) q = tt
    go op.Thaw (Thaw t) q = let f = thawing_few es t q in omega (arith, f, fits)
    go (op.Boot n) (Boot b) q = let f = booting_few es n b q in let one = f.0 in omega (arith, one, fits)
    go (op.UpMany set) (Batch b) q = let f = batching_few head is.of.before es set b q in omega (arith, f, fits)
    go asked NoWalk q = tt
    go asked (Thaw t) q = elim q [ ]
    go asked (Boot b) q = elim q [ ]
    go asked (Batch b) q = elim q [ ]

pub not_waiting : (es : List Event) → None ≡ option_map why_of (wait_to_walk es) → wait_to_walk es ≡ None
not_waiting es h = go (wait_to_walk es) h
  where
    go : (w : Option Wait) → None ≡ option_map why_of w → w ≡ None
    go None e = refl
    go (Some w) e = absurd (none_some (why_of w) e)

-- of an upmany that walks the seat that is busy is the holder
pub holders_turn : (head : Head) (es : List Event) (p : Account) (k : ℕ) (b : ABatch) (c : ℕ) → IsLawful head es → IsAccount head es p →
    is_busy k es ≡ true → IsBatchWalking p b c → IsHoldersTurn head es k b c
holders_turn head es p k b c lawful account busy w =
    let i = of_batch head es p.operation w.seat b account.operation w.batch_is in
    let there = walks_by head es p.flights c account.flights w.lowest_is.is_in in
    let f = some_of (walk c es) there in
    let idle = (walk_kept head es c f.0 lawful f.1).no_registration in
    let holds = holds_then es k busy (rw idle refl) in
    record {
      of = i.of;
      held = i.held;
      seat_is = eqb-true i.of.seat k (sym (ap (holds_map k) i.held) ∙ holds);
      set = i.set;
      op_is = i.op_is;
      batching = i.batching;
      walks = walk_walking es c f.0 f.1;
      lowest_is = lowest_here head es p.flights c account.flights w.lowest_is;
    }

-- and else no upmany walks
pub no_batch_walks : (head : Head) (es : List Event) (p : Account) → IsAccount head es p →
    (batch_of p.operation ≡ None) ⊎ HasNoneFrom p.flights.walking 0 → is_batch_walking es ≡ false
no_batch_walks head es p account (inl none) =
    let single = not_batch head es p.operation account.operation none in
    ap (λ z. z && is_walking es) single
no_batch_walks head es p account (inr none) =
    let still = none_walks head es p.flights account.flights (λ c. none c (omega arith)) in
    ap (λ z. held_by_op is_upmany (operation es) && not (is_empty z)) still ∙ and_false (held_by_op is_upmany (operation es))
  where
    and_false : (b : Bool) → (b && false) ≡ false
    and_false true = refl
    and_false false = refl

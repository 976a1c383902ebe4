-- What comes next of the seat of an upmany that walks: the begin of the next walk, what comes next in the walk whose turn it is, or that
-- it waits for a processor's thread.
use Rattle.std.proofs.Common.{◌≡◌, ℕ, ◌<◌, true, false, ◌&&◌, cond, eqb, is_some, is_none, ◌↔◌, Option, Some, None, IfSome, IfNone, List, ◌∷◌, inl, inr, refl, ap, sym, subst, ◌∙◌, arith}
use Rattle.std.specs.Prelude.{slice_get}
use Rattle.std.proofs.lemmas.Bool.{false≢true, eqb-true, eq-eqb, and_parts}
use Rattle.hp_model.proofs.PromisedParts.{later_room}
use Rattle.hp_states.proofs.Basics.{none_some, same_some}
use Rattle.hp_states.specs.declared.limits.TheConstants.{ONLINE}
use Rattle.hp_states.specs.CpuSets.{IsLowestFrom, HasNoneFrom}
use Rattle.hp_event.specs.declared.op.Op.{Op}
use Rattle.hp_event.specs.declared.head.Head.{Head}
use Rattle.hp_event.specs.declared.event.Event.{Event}
use Rattle.hp_event.specs.declared.event.Event.TheVariants.{WalkBegin}
use Rattle.hp_locks.specs.declared.why.Why.TheVariants.{ApTurn}
use Rattle.hp_model.specs.ApTurn.{IsEntryOf, IsApTurn}
use Rattle.hp_model.specs.Batch.{is_upmany, batch, unbegun, to_begin, to_begin_of, is_batch_begun}
use Rattle.hp_model.specs.BatchTurn.{turn_of, is_it, brings_up, lowest_walking}
use Rattle.hp_model.specs.Events.{seat_of}
use Rattle.hp_model.specs.Lawful.{IsLawful}
use Rattle.hp_model.specs.Lists.{is_empty, among, numbers}
use Rattle.hp_model.specs.MapLock.{Operation, operation}
use Rattle.hp_model.specs.Needs.{need}
use Rattle.hp_model.specs.NextEvent.{next_event}
use Rattle.hp_model.specs.NextInWalk.{next_of_walk}
use Rattle.hp_model.specs.Settled.{settled}
use Rattle.hp_model.specs.StandsOperations.{WalkBegins}
use Rattle.hp_model.specs.Suspend.{held_by}
use Rattle.hp_model.specs.Walks.{walk, walking, is_walking}
use Rattle.hp_model.proofs.BatchLemmas.{upmany_begins, walking_begun}
use Rattle.hp_model.proofs.InFlight.{walking_is}
use Rattle.hp_model.proofs.NextGives.{next_gives}
use Rattle.hp_model.proofs.OneNext.{owners}
use Rattle.hp_model.proofs.Passing.{find_holds}
use Rattle.hp_model.proofs.SeatNext.{holders_next, holders_wait}
use Rattle.hp_model.proofs.SomeMoves.{facts, entered_op}
use Rattle.hp_model.proofs.TurnLemmas.{OwnEvent, turn_own, seat_brings, held_up_parts}
use Rattle.hp_model.proofs.WaitLemmas.{later_walk}
use Rattle.hp_suspend.specs.declared.batch.Batch.{Batch as ABatch}
use Rattle.hp_account.specs.declared.under_way.NextStep.{NextStep}
use Rattle.hp_account.specs.declared.under_way.NextStep.TheVariants as coming
use Rattle.hp_account.specs.declared.flights.Flights.{Flights}
use Rattle.hp_machine.specs.declared.next.Next.{Next}
use Rattle.hp_machine.specs.declared.next.Next.TheVariants as answer
use Rattle.hp_account.specs.Batches.{IsKnown, IsUpmanyAt}
use Rattle.hp_machine.specs.Upmany.{IsHoldersTurn}
use Rattle.hp_account.specs.Entries.{entry_event}
use Rattle.hp_account.specs.Flights.{IsFlights}
use Rattle.hp_machine.specs.Next.{IsNext, IsKept}
use Rattle.hp_machine.specs.Next.{next_by}
use Rattle.hp_account.specs.NextStep.{end_event}
use Rattle.hp_account.specs.WalkComing.{IsNextOnIf}
use Rattle.hp_machine.proofs.HolderRests.{held_as, held_allowed, holder_busy, next_same, held_up_rests, not_full}
use Rattle.hp_account.proofs.InBatch.{some_walking, known_idle, first_left, none_left, lowest_here}
use Rattle.hp_account.proofs.WalkMoves.{walk_begins}

-- ---- a walk begins

-- the next walk of an upmany that walks
pub record NextBegins (head : Head) (es : List Event) (k c : ℕ) : Type 0 where
  pub inside : c < head.possible
  pub next : (op : Op) → next_event head es k op ≡ Some (WalkBegin k c (settled c es) ONLINE)
  pub takes_none : (from to : ℕ) → need head es (WalkBegin k c from to) ≡ None

pub begins_next : (head : Head) (es : List Event) (k c : ℕ) (b : ABatch) (lowest : ℕ) → IsLawful head es →
    IsHoldersTurn head es k b lowest → Some c ≡ slice_get (to_begin head es) 0 → NextBegins head es k c
begins_next head es k c b lowest lawful turn h =
    subst (λ s. NextBegins head es s c) turn.seat_is
    (record {
      inside = (walk_begins head es o.seat c (settled c es) ONLINE lawful comes).inside;
      next = λ op. next_same head es o.seat op o.op (holder_busy es o turn.held) ∙ it;
      takes_none = λ from to. later_room head es o.seat c from to begun_one;
    })
  where
    o : Operation
    o = turn.of

    held : operation es ≡ Some o
    held = turn.held

    u : is_upmany o.op ≡ true
    u = ap is_upmany turn.op_is

    begun_one : is_batch_begun es ≡ true
    begun_one = let w = some_walking es turn.walks in walking_begun es o w.0 w.1 (owners head es lawful) held u w.2

    left : (ds : List ℕ) × (unbegun (batch head o.before o.op) es ≡ c ∷ ds)
    left =
        let l = first_left (to_begin head es) c h in
        let same : to_begin head es ≡ unbegun (batch head o.before o.op) es = ap (λ z. to_begin_of head z es) held in
        (l.0, sym same ∙ l.1)

    comes : WalkBegins head es o.seat c (settled c es) ONLINE
    comes = record {
      of = o;
      held = held;
      seat_is = refl;
      between = rw u refl;
      gives = upmany_begins head es o.before o.op c left.0 u left.1;
      from_is = refl;
      no_wait = later_walk es begun_one;
    }

    it : next_event head es o.seat o.op ≡ Some (WalkBegin o.seat c (settled c es) ONLINE)
    it =
        let none = later_room head es o.seat c (settled c es) ONLINE begun_one in
        next_gives head es (held_as o) (WalkBegin o.seat c (settled c es) ONLINE) lawful (held_allowed head es o lawful held)
        (comes, rw none refl) refl (entered_op head es o (facts head es lawful).operations held)

-- ---- the walk whose turn it is

-- what comes next in it is the seat's
pub record GivesTurn (head : Head) (es : List Event) (seat : ℕ) (what : Option NextStep) : Type 0 where
  pub next : Next
  pub is : next_by seat what ≡ Some next
  pub said : (op : Op) → IsNext head es seat op next

gives_turn : (head : Head) (es : List Event) (o : Operation) (c : ℕ) (what : Option NextStep) → IsLawful head es →
    operation es ≡ Some o → is_upmany o.op ≡ true → turn_of head es o.seat ≡ Some c → IsNextOnIf head es c what →
    GivesTurn head es o.seat what
gives_turn head es o c what lawful held u turn n = go what n
  where
    own : OwnEvent head es o.seat c
    own = turn_own head es o.seat c turn

    next : (op : Op) → next_event head es o.seat op ≡ Some own.event
    next op =
        next_same head es o.seat op o.op (holder_busy es o held)
        ∙ (holders_next head es lawful o (held_as o) c (held_allowed head es o lawful held) held refl u turn ∙ own.gives)

    makes : (e : Event) → next_of_walk head es c (walk c es) ≡ Some e → own.event ≡ e
    makes e g = same_some own.event e (sym own.gives ∙ g)

    go : (what : Option NextStep) → IsNextOnIf head es c what → GivesTurn head es o.seat what
    go None n = absurd (none_some own.of (sym n ∙ own.in_flight))
    go (Some (coming.Entry client on None)) n = absurd (none_some own.event (sym n.gives ∙ own.gives))
    go (Some (coming.Entry client on (Some x))) n =
        let same = makes (entry_event head es x) n.gives in
        let mine = eq-eqb x.seat o.seat (sym (ap seat_of same) ∙ own.by) in
        record { next = answer.Entry x; is = rw mine refl; said = λ op. next op ∙ ap Some same }
    go (Some (coming.End e)) n =
        let same = makes (end_event e) n.gives in
        let mine = eq-eqb (seat_of (end_event e)) o.seat (sym (ap seat_of same) ∙ own.by) in
        let none = n.parts.2 in
        record {
          next = answer.Event (end_event e) 0;
          is = rw mine refl;
          said = λ op. (next op ∙ ap Some same, rw none refl, n.parts.1);
        }

pub gives_of : (head : Head) (es : List Event) (k c : ℕ) (what : Option NextStep) → IsLawful head es → brings_up k (operation es) ≡ true →
    turn_of head es k ≡ Some c → IsNextOnIf head es c what → GivesTurn head es k what
gives_of head es k c what lawful brings turn n = go (operation es) refl brings
  where
    go : (v : Option Operation) → operation es ≡ v → brings_up k v ≡ true → GivesTurn head es k what
    go None held h = absurd (false≢true h)
    go (Some o) held h =
        let p = and_parts (eqb o.seat k) (is_upmany o.op) h in
        let s = eqb-true o.seat k p.0 in
        subst (λ z. GivesTurn head es z what) s (gives_turn head es o c what lawful held p.1 (ap (turn_of head es) s ∙ turn) n)

-- ---- nobody's turn

pub upmany_at : (head : Head) (es : List Event) (k : ℕ) (b : ABatch) (lowest : ℕ) → IsHoldersTurn head es k b lowest → IsUpmanyAt head es k b
upmany_at head es k b lowest t =
    record { of = t.of; held = t.held; seat_is = t.seat_is; set = t.set; op_is = t.op_is; batching = t.batching }

-- where it is nobody's turn it waits for the thread of the lowest that walks
pub waits_said : (head : Head) (es : List Event) (k c : ℕ) (b : ABatch) → IsLawful head es → IsHoldersTurn head es k b c →
    None ≡ slice_get (to_begin head es) 0 → turn_of head es k ≡ None → (op : Op) → IsKept head es k op (ApTurn c)
waits_said head es k c b lawful t left none op =
    let o = t.of in
    let held = t.held in
    let turn =
    holders_wait head es lawful o c held (ap is_upmany t.op_is) (none_left (to_begin head es) left)
    (ap (turn_of head es) t.seat_is ∙ none) t.lowest_is in
    subst (λ s. IsKept head es s op (ApTurn c)) t.seat_is
    (record {
      no_event = held_up_rests head es o c op lawful held turn;
      not_full = not_full head es o.seat op (holder_busy es o held);
      why_is = turn;
    })

-- nobody waits for a thread where no upmany is in flight and nothing is under way
pub no_wait_at_rest : (head : Head) (es : List Event) (k c : ℕ) → IsLawful head es → IsKnown head es →
    held_by is_upmany (operation es) ≡ false → IsApTurn head es k c → ⊥
no_wait_at_rest head es k c lawful (inr b) single t = false≢true (sym (ap (λ z. z && is_walking es) single) ∙ b)
no_wait_at_rest head es k c lawful (inl n) single t = go t.entry
  where
    go : IsEntryOf head es k c t.state t.inst t.dir t.how → ⊥
    go (inl e) =
        false≢true (sym (ap (among c) n.no_walk) ∙ (walking_is c es ∙ ap is_some e.0.in_flight))
    go (inr e) = none_some e.0.of (sym n.no_registration ∙ e.0.in_flight)

-- nor does another seat while an upmany is
pub no_wait_of_other : (head : Head) (es : List Event) (k holder c : ℕ) (b : ABatch) → IsLawful head es → IsKnown head es →
    IsUpmanyAt head es holder b → (holder ≡ k → ⊥) → IsApTurn head es k c → ⊥
no_wait_of_other head es k holder c b lawful known up other t = go t.entry
  where
    go : IsEntryOf head es k c t.state t.inst t.dir t.how → ⊥
    go (inl e) =
        let p = (owners head es lawful).walk_op c e.0.of e.0.in_flight in
        let one : p.0 ≡ up.of = same_some p.0 up.of (sym p.1 ∙ up.held) in
        other (sym up.seat_is ∙ (ap (λ z. z.seat) (sym one) ∙ (p.2 ∙ e.1)))
    go (inr e) = none_some e.0.of (sym (known_idle head es lawful known) ∙ e.0.in_flight)

-- nor does its own while a walk is to begin, or one has the turn
held_up : (head : Head) (es : List Event) (k c : ℕ) (b : ABatch) → IsUpmanyAt head es k b → IsApTurn head es k c →
    (is_empty (to_begin head es) ≡ true) × (is_none (turn_of head es k) ≡ true)
held_up head es k c b up t = held_up_parts head es up.of k c up.held up.seat_is (ap is_upmany up.op_is) t.held_up

pub no_wait_before : (head : Head) (es : List Event) (k c d : ℕ) (b : ABatch) → IsUpmanyAt head es k b →
    Some d ≡ slice_get (to_begin head es) 0 → IsApTurn head es k c → ⊥
no_wait_before head es k c d b up h t =
    let l = first_left (to_begin head es) d h in
    false≢true (sym (ap is_empty l.1) ∙ (held_up head es k c b up t).0)

pub no_wait_in_turn : (head : Head) (es : List Event) (k c d : ℕ) (b : ABatch) → IsUpmanyAt head es k b → turn_of head es k ≡ Some d →
    IsApTurn head es k c → ⊥
no_wait_in_turn head es k c d b up h t = false≢true (sym (ap is_none h) ∙ (held_up head es k c b up t).1)

it_is : (c : ℕ) (v : Option ℕ) → is_it c v ≡ true → v ≡ Some c
it_is c None h = absurd (false≢true h)
it_is c (Some d) h = ap Some (eqb-true d c h)

-- the processor that it waits for is the lowest that walks
pub waits_for_lowest : (head : Head) (es : List Event) (o : Operation) (c : ℕ) → operation es ≡ Some o → is_upmany o.op ≡ true →
    IsApTurn head es o.seat c → lowest_walking head es ≡ Some c
waits_for_lowest head es o c held u t =
    let b = seat_brings es o o.seat held refl u in
    let all = sym (ap (λ z. cond z ((is_empty (to_begin head es) && is_none (turn_of head es o.seat)) && is_it c (lowest_walking head es)) true) b) ∙ t.held_up in
    it_is c (lowest_walking head es)
    (and_parts (is_empty (to_begin head es) && is_none (turn_of head es o.seat)) (is_it c (lowest_walking head es)) all).1

pub waits_exactly : (head : Head) (es : List Event) (k c : ℕ) (b : ABatch) (flights : Flights) (found : Option ℕ) → IsLawful head es →
    IsUpmanyAt head es k b → IsFlights head es flights → None ≡ slice_get (to_begin head es) 0 → turn_of head es k ≡ None →
    IfSome found (IsLowestFrom flights.walking 0) → IfNone found (HasNoneFrom flights.walking 0) →
    IsApTurn head es k c ↔ (found ≡ Some c)
unfolding lowest_walking
waits_exactly head es k c b flights found lawful up t left none lowest nowhere =
    subst (λ s. IsApTurn head es s c ↔ (found ≡ Some c)) up.seat_is (go found lowest nowhere)
  where
    o : Operation
    o = up.of

    u : is_upmany o.op ≡ true
    u = ap is_upmany up.op_is

    rests : HasNoneFrom flights.walking 0 → lowest_walking head es ≡ Some c → ⊥
    rests nowhere l =
        let there = find_holds (λ d. among d (walking es)) c (numbers head.possible) l in
        false≢true (sym (nowhere c (omega arith)) ∙ (t.walking_is c ∙ there))

    go : (found : Option ℕ) → IfSome found (IsLowestFrom flights.walking 0) → IfNone found (HasNoneFrom flights.walking 0) →
        IsApTurn head es o.seat c ↔ (found ≡ Some c)
    go (Some d) lowest nowhere =
        let l = lowest_here head es flights d t lowest in (
          λ turn. sym l ∙ waits_for_lowest head es o c up.held u turn,
          λ e.
              holders_wait head es lawful o c up.held u (none_left (to_begin head es) left) (ap (turn_of head es) up.seat_is ∙ none) (l ∙ e),
        )
    go None lowest nowhere = (
      λ turn. absurd (rests nowhere (waits_for_lowest head es o c up.held u turn)),
      λ e. absurd (none_some c e),
    )

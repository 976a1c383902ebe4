-- What a run knows of the actors that wait holds after each turn, and the turn of such an actor makes nothing.
use Rattle.std.proofs.Common.{◌≡◌, ◌≢◌, ℕ, zero, suc, ◌+◌, ◌<◌, ◌≤◌, Bool, true, false, cond, ltb, is_some, OnOk, OnErr, Result, Ok, Err, IfSome, Option, Some, None, List, [], ◌∷◌, ◌++◌, length, length-append, map, set, refl, ap, sym, subst, ◌∙◌, inl, inr, ◌⊎◌, arith}
use Rattle.std.specs.Prelude.{option_to_list, option_map, slice_get}
use Rattle.std.proofs.lemmas.List.{append-nil}
use Rattle.std.proofs.lemmas.Option.{slice_get-map, slice_get_past, slice_get_within, get_or_from_slice_get}
use Rattle.std.proofs.lemmas.Bool.{true≢false, ltb-false}
use Rattle.hp_states.proofs.Basics.{not_equal}
use Rattle.hp_event.specs.declared.op.Op.{Op}
use Rattle.hp_event.specs.declared.head.Head.{Head}
use Rattle.hp_event.specs.declared.event.Event.{Event}
use Rattle.hp_event.specs.declared.event.Event.TheVariants.{Call}
use Rattle.hp_board.proofs.Waiting.{plain_wait}
use Rattle.hp_table.specs.Step.{AllHome}
use Rattle.hp_board.specs.Contents.{Contents}
use Rattle.hp_board.specs.Turns.{IsTurn}
use Rattle.hp_board.specs.declared.turn.Ask.{Ask}
use Rattle.hp_board.specs.declared.turn.Turn.{Turn}
use Rattle.hp_board.specs.declared.turn.Turn.TheVariants.{Made, Answered, NotYet}
use Rattle.hp_machine.specs.Next.{IsKept, WaitsFor}
use Rattle.hp_locks.specs.declared.why.Why.{Why}
use Rattle.hp_locks.specs.declared.why.Why.TheVariants.{MapsHeld, WriterIn, ReadersIn, RegIn, ApTurn, HookOut, Idle}
use Rattle.hp_model.specs.ApTurn.{IsEntryOf, IsApTurn}
use Rattle.hp_model.specs.Events.{seat_of, is_call}
use Rattle.hp_model.specs.Lawful.{IsLawful, Stands}
use Rattle.hp_model.specs.NextEvent.{next_event, due_entry, is_full}
use Rattle.hp_model.specs.ScriptTurns.{RunState, counted, turn}
use Rattle.hp_model.specs.Seats.{is_busy}
use Rattle.hp_model.specs.Waits.{Wait, maps_held, is_waiting}
use Rattle.hp_model.specs.MapLock.{is_map_held}
use Rattle.hp_model.proofs.DueGives.{due_stands}
use Rattle.hp_model.proofs.NextStands.{next_stands}
use Rattle.hp_model.proofs.OneNext.{owners}
use Rattle.hp_model.proofs.Owners.{Owners, idle_op, idle_reg}
use Rattle.hp_actors.specs.declared.actor.Actor.{Actor}
use Rattle.hp_actors.specs.Actors.{IsAgenda, agenda_at, noted, wait_for, with_ask}
use Rattle.hp_actors.specs.RunInvariant.{IsPlaying}
use Rattle.hp_actors.specs.Positions.{ops_of, op_of, answered_of, progress_of}
use Rattle.hp_actors.specs.Racks.{IsFresh}
use Rattle.hp_actors.specs.ActorTurns.{asked, event_for, answers_for, is_answered}
use Rattle.hp_actors.specs.PassedOver.{IsReady, IsWaiting, EndsNothing, MakesNoEvent, MakesNothing, NeedsMap, IsKnown, KnowsWait, KnowsWaits, is_end, waited}
use Rattle.hp_actors.specs.declared.actor.Waits.{Waits}
use Rattle.hp_actors.specs.declared.actor.Waits.TheVariants.{Unknown, WhileMapHeld, UntilEnd, Forever}
use Rattle.hp_actors.proofs.TurnsAsked.{ops_set}
use Rattle.hp_actors.proofs.Playing.{Served, asked_is, in_place, set_at}
use Rattle.hp_actors.proofs.Progressing.{actor_turn}
use Rattle.hp_actors.proofs.Waiting.{ready_still, waits_still, refused_waiting, held_waits, map_waited, waiting_next, waiting_full}

-- ---- what a turn that makes nothing finds

-- whose next entry is a thread's has an operation in flight
thread_in_flight : (head : Head) (xs : List Event) (k cpu : ℕ) → Owners xs → IsApTurn head xs k cpu → is_busy k xs ≡ false → ⊥
thread_in_flight head xs k cpu o t idle = go t.entry
  where
    go : IsEntryOf head xs k cpu t.state t.inst t.dir t.how → ⊥
    go (inl e) =
        let by = o.walk_op cpu e.0.of e.0.in_flight in
        not_equal by.0.seat k (idle_op xs k by.0 idle by.1) (by.2 ∙ e.1)
    go (inr e) = not_equal e.0.of.seat k (idle_reg xs k e.0.of idle e.0.in_flight) e.1

waits_for : (head : Head) (xs : List Event) (k : ℕ) (op : Op) (w : Wait) → is_busy k xs ≡ false → WaitsFor head xs k op w →
    IsWaiting head xs k op
waits_for head xs k op w idle h =
    let begins = h.wait_is in
    let waits : is_waiting xs op ≡ true = ap is_some (rw idle at begins) in
    record {
      ready = record { idle = idle; not_refused = sym (refused_waiting head xs k op idle waits) ∙ h.not_refused };
      waits = waits;
    }

-- it waits to begin, where its seat has nothing in flight
pub found_waiting : (head : Head) (xs : List Event) (k : ℕ) (op : Op) (why : Why) → IsLawful head xs → IsKept head xs k op why →
    is_busy k xs ≡ false → IsWaiting head xs k op
found_waiting head xs k op (MapsHeld seat) lawful h idle = waits_for head xs k op _ idle h.why_is
found_waiting head xs k op (WriterIn seat) lawful h idle = waits_for head xs k op _ idle h.why_is
found_waiting head xs k op (ReadersIn count) lawful h idle = waits_for head xs k op _ idle h.why_is
found_waiting head xs k op (RegIn seat) lawful h idle = waits_for head xs k op _ idle h.why_is
found_waiting head xs k op (ApTurn cpu) lawful h idle =
    absurd (thread_in_flight head xs k cpu (owners head xs lawful) h.why_is idle)
found_waiting head xs k op (HookOut s) lawful h idle = absurd h.why_is
found_waiting head xs k op Idle lawful h idle = absurd h.why_is

-- an actor's operation is the same while no other is answered
pub asked_same : {H : Type 0} (actor now : Actor H) → ops_of now ≡ ops_of actor → now.answered ≡ actor.answered → asked now ≡ asked actor
asked_same actor now ops answered =
    sym (slice_get-map op_of now.asks now.answered)
    ∙ (ap (λ xs. slice_get xs now.answered) ops
    ∙ (ap (slice_get (ops_of actor)) answered ∙ slice_get-map op_of actor.asks actor.answered))

-- what is noted of an operation that waits
waits_noted : (head : Head) (xs : List Event) (last last_now k : ℕ) (op : Op) (why : Why) → IsLawful head xs → IsKept head xs k op why →
    is_busy k xs ≡ false → last ≤ last_now → IsKnown head xs last_now k (Some op) (wait_for why last)
waits_noted head xs last last_now k op (MapsHeld seat) lawful h idle up =
    let begins = h.why_is.wait_is in
    ((waits_for head xs k op (maps_held seat) idle h.why_is).ready, map_waited xs op seat (rw idle at begins))
waits_noted head xs last last_now k op (WriterIn seat) lawful h idle up =
    (up, λ same. found_waiting head xs k op (WriterIn seat) lawful h idle)
waits_noted head xs last last_now k op (ReadersIn count) lawful h idle up =
    (up, λ same. found_waiting head xs k op (ReadersIn count) lawful h idle)
waits_noted head xs last last_now k op (RegIn seat) lawful h idle up =
    (up, λ same. found_waiting head xs k op (RegIn seat) lawful h idle)
waits_noted head xs last last_now k op (ApTurn cpu) lawful h idle up =
    (up, λ same. found_waiting head xs k op (ApTurn cpu) lawful h idle)
waits_noted head xs last last_now k op (HookOut s) lawful h idle up =
    (up, λ same. found_waiting head xs k op (HookOut s) lawful h idle)
waits_noted head xs last last_now k op Idle lawful h idle up = (up, λ same. found_waiting head xs k op Idle lawful h idle)

-- what is known before the next operation is asked for
pub at_known : {H : Type 0} (head : Head) (xs : List Event) (last k : ℕ) (asks : List (Ask H)) (n : ℕ) →
    KnowsWait head xs last k (agenda_at asks n)
at_known head xs last k asks n = go (ltb n (length asks)) refl
  where
    go : (b : Bool) → ltb n (length asks) ≡ b →
        IsKnown head xs last k (option_map op_of (slice_get asks n)) (cond b Unknown Forever)
    go true f = tt
    go false f = ap (option_map op_of) (slice_get_past asks n (ltb-false n (length asks) f))

past : {X : Type 0} (xs : List X) (i : ℕ) → slice_get xs i ≡ None → length xs ≤ i
past [] i none = omega arith
past (x ∷ xs) zero none = absurd (cc)
past (x ∷ xs) (suc i) none = let e = past xs i none in omega (arith, e)

-- an actor with no operation left waits for ever
pub forever_known : {H : Type 0} (head : Head) (xs : List Event) (last k : ℕ) (actor : Actor H) → IsAgenda actor →
    slice_get actor.asks actor.answered ≡ None → KnowsWait head xs last k actor
forever_known head xs last k actor is none =
    let within = is.within in
    let after = past actor.asks actor.answered none in
    let forever : actor.waits ≡ Forever = is.over.1 (omega (arith, within, after)) in
    subst (IsKnown head xs last k (asked actor)) (sym forever) (ap (option_map op_of) none)

-- what an actor's turn notes
pub turn_notes : {H : Type 0} (k last last_now : ℕ) (old new : Contents) (actor now : Actor H) (ask ask_now : Ask H) (t : Turn) →
    IsLawful old.head old.events → AllHome old.places → IsTurn k ask.op old new t → ask_now.op ≡ ask.op →
    slice_get actor.asks actor.answered ≡ Some ask → now ≡ waited (noted (with_ask actor ask_now) t) t (is_busy k new.events) last →
    last ≤ last_now → KnowsWait new.head new.events last_now k now
turn_notes {H} k last last_now old new actor now ask ask_now t lawful home turn op at is up =
    subst (KnowsWait new.head new.events last_now k) (sym is) (go t turn)
  where
    asks : List (Ask H)
    asks = set actor.asks actor.answered ask_now

    waits : (why : Why) → IsTurn k ask.op old new (NotYet why) → is_busy k new.events ≡ false →
        KnowsWait new.head new.events last_now k (waited (noted (with_ask actor ask_now) (NotYet why)) (NotYet why) false last)
    waits why kept idle =
        let n : ℕ = actor.answered in
        let same : n + 0 ≡ n = omega arith in
        let there : option_map op_of (slice_get asks (n + 0)) ≡ Some ask.op =
        asked_same actor (agenda_at asks (n + 0)) (ops_set actor.asks n ask ask_now at op) same ∙ ap (option_map op_of) at in
        let free : is_busy k old.events ≡ false = ap (λ (b : Contents). is_busy k b.events) (sym kept.1) ∙ idle in
        subst (λ o. IsKnown new.head new.events last_now k o (wait_for why last)) (sym there)
        (subst (λ (b : Contents). IsKnown b.head b.events last_now k (Some ask.op) (wait_for why last)) (sym kept.1)
        (waits_noted old.head old.events last last_now k ask.op why lawful (plain_wait k ask.op old why home kept.0) free up))

    by : (why : Why) (b : Bool) → is_busy k new.events ≡ b → IsTurn k ask.op old new (NotYet why) →
        KnowsWait new.head new.events last_now k (waited (noted (with_ask actor ask_now) (NotYet why)) (NotYet why) b last)
    by why true f kept = at_known new.head new.events last_now k asks (actor.answered + 0)
    by why false f kept = waits why kept f

    go : (u : Turn) → IsTurn k ask.op old new u →
        KnowsWait new.head new.events last_now k (waited (noted (with_ask actor ask_now) u) u (is_busy k new.events) last)
    go (Made place) made = at_known new.head new.events last_now k asks (actor.answered + 0)
    go (Answered place answer) made = at_known new.head new.events last_now k asks (actor.answered + 1)
    go (NotYet why) kept = by why (is_busy k new.events) refl kept

-- ---- what is known after a turn

-- an entry ends nothing
call_ends_nothing : (e : Event) → is_call e ≡ true → is_end e ≡ false
call_ends_nothing (Call seat cpu state inst dir how) h = refl
call_ends_nothing e h = absurd (true≢false (sym h))

-- one event more of another seat, or none
nothing_on : (head : Head) (before : List Event) (k j : ℕ) (o : Option Event) (op : Option Op) →
    IfSome o (λ e. Stands head before e × (seat_of e ≡ k)) → k ≢ j → EndsNothing o → MakesNothing head before j op →
    MakesNothing head (before ++ option_to_list o) j op
nothing_on head before k j o None by other ends h = tt
nothing_on head before k j None (Some op) by other ends h = subst (λ es. IsWaiting head es j op) (sym (append-nil before)) h
nothing_on head before k j (Some e) (Some op) by other ends h = waits_still head before e j op by.0.0 (λ is. other (sym by.1 ∙ is)) ends h

needs_on : (head : Head) (before : List Event) (k j : ℕ) (o : Option Event) (op : Option Op) →
    IfSome o (λ e. Stands head before e × (seat_of e ≡ k)) → k ≢ j → NeedsMap head before j op → NeedsMap head (before ++ option_to_list o) j op
needs_on head before k j o None by other h = tt
needs_on head before k j None (Some op) by other h = (subst (λ es. IsReady head es j op) (sym (append-nil before)) h.0, h.1)
needs_on head before k j (Some e) (Some op) by other h = (ready_still head before e j op (λ is. other (sym by.1 ∙ is)) h.0, h.1)

known_on : (head : Head) (before : List Event) (last last_now k j : ℕ) (o : Option Event) (op : Option Op) (waits : Waits) →
    IfSome o (λ e. Stands head before e × (seat_of e ≡ k)) → k ≢ j → last ≤ last_now → (last_now ≡ last → EndsNothing o) →
    IsKnown head before last j op waits → IsKnown head (before ++ option_to_list o) last_now j op waits
known_on head before last last_now k j o op Unknown by other up ends h = tt
known_on head before last last_now k j o op WhileMapHeld by other up ends h = needs_on head before k j o op by other h
known_on head before last last_now k j o op (UntilEnd since) by other up ends h =
    let le = h.0 in (
      omega (arith, le, up),
      λ is. nothing_on head before k j o op by other (ends (omega (arith, le, up, is))) (h.1 (omega (arith, le, up, is))),
    )
known_on head before last last_now k j o op Forever by other up ends h = h

knows_on : {H : Type 0} (head : Head) (before : List Event) (last last_now k j : ℕ) (o : Option Event) (actor : Actor H) →
    IfSome o (λ e. Stands head before e × (seat_of e ≡ k)) → k ≢ j → last ≤ last_now → (last_now ≡ last → EndsNothing o) →
    KnowsWait head before last j actor → KnowsWait head (before ++ option_to_list o) last_now j actor
knows_on head before last last_now k j o actor by other up ends know =
    known_on head before last last_now k j o (asked actor) actor.waits by other up ends know

pub longer : (before : List Event) (o : Option Event) (n : ℕ) → n ≤ length before → n ≤ length (before ++ option_to_list o)
longer before o n few = let l = length-append before (option_to_list o) in omega (arith, few, l)

-- one event more that is no end leaves the last end where it was
pub ends_known : (before after : List Event) (o : Option Event) (last now : ℕ) → after ≡ before ++ option_to_list o → last ≤ length before →
    ((front : List Event) (e : Event) → after ≡ front ++ e ∷ [] → last ≤ length front → now ≡ last → is_end e ≡ false) →
    now ≡ last → EndsNothing o
ends_known before after None last now is few no_end same = tt
ends_known before after (Some e) last now is few no_end same = no_end before e is few same

due_by : (head : Head) (events : List Event) (k : ℕ) (o : Option Event) → due_entry head events k ≡ o →
    IfSome o (λ e. Stands head events e × (seat_of e ≡ k)) × EndsNothing o
due_by head events k None f = (tt, tt)
due_by head events k (Some e) f = let d = due_stands head events k e f in ((d.0, d.2), call_ends_nothing e d.1)

-- a thread makes entries alone
pub thread_knows : {H : Type 0} (old new : Contents) (actors : List (Actor H)) (threads last k : ℕ) → k < threads → Served k old new →
    KnowsWaits old threads last actors → KnowsWaits new threads last actors
thread_knows {H} old new actors threads last k below s w = record {
  made = subst (λ (es : List Event). last ≤ length es) (sym s.events_are) (longer old.events o last w.made);
  each = λ i actor at.
      subst (λ h. KnowsWait h new.events last (threads + i) actor) (sym s.head_is)
      (subst (λ es. KnowsWait old.head es last (threads + i) actor) (sym s.events_are)
      (knows_on old.head old.events last last k (threads + i) o actor by.0 (λ is. absurd (omega (arith, is, below))) (omega arith)
      (λ same. by.1) (w.each i actor at)));
}
  where
    o : Option Event
    o = due_entry old.head old.events k

    by : IfSome o (λ e. Stands old.head old.events e × (seat_of e ≡ k)) × EndsNothing o
    by = due_by old.head old.events k o refl

asked_by : (head : Head) (events : List Event) (k : ℕ) (op : Option Op) →
    IfSome (event_for head events k op) (λ e. Stands head events e × (seat_of e ≡ k))
asked_by head events k None = tt
asked_by head events k (Some op) = go (next_event head events k op) refl
  where
    go : (o : Option Event) → next_event head events k op ≡ o → IfSome o (λ e. Stands head events e × (seat_of e ≡ k))
    go None f = tt
    go (Some e) f = next_stands head events k op e f

-- what an actor's turn made, and what it notes of it
pub record Noted {H : Type 0} (old new : Contents) (last last_now seat : ℕ) (actor now : Actor H) : Type 0 where
  pub head_is : new.head ≡ old.head
  pub event : Option Event
  pub events_are : new.events ≡ old.events ++ option_to_list event
  pub by : IfSome event (λ e. Stands old.head old.events e × (seat_of e ≡ seat))
  pub up : last ≤ last_now
  pub made : last_now ≤ length new.events
  pub ends : last_now ≡ last → EndsNothing event
  pub knows : KnowsWait new.head new.events last_now seat now

actor_knows : {H : Type 0} (old new : Contents) (actors : List (Actor H)) (threads last last_now i : ℕ) (actor now : Actor H) →
    Noted old new last last_now (threads + i) actor now → KnowsWaits old threads last actors →
    KnowsWaits new threads last_now (set actors i now)
actor_knows {H} old new actors threads last last_now i actor now n w = record {
  made = n.made;
  each = λ j other found. each j other (set_at actors i j now other found);
}
  where
    each : (j : ℕ) (other : Actor H) → ((j ≡ i) × (other ≡ now)) ⊎ ((j ≡ i → ⊥) × (slice_get actors j ≡ Some other)) →
        KnowsWait new.head new.events last_now (threads + j) other
    each j other (inl h) = rw (h.0, h.1) n.knows
    each j other (inr h) =
        subst (λ head. KnowsWait head new.events last_now (threads + j) other) (sym n.head_is)
        (subst (λ es. KnowsWait old.head es last_now (threads + j) other) (sym n.events_are)
        (knows_on old.head old.events last last_now (threads + i) (threads + j) n.event other n.by
        (λ is. h.0 (omega (arith, is))) n.up n.ends (w.each j other h.1)))

-- whether memory was wanting or not, where the seat is known by its number
pub turn_knows : {H E F : Type 0} (r : Result E F) (old new : Contents) (actors : List (Actor H)) (threads last last_now i k : ℕ)
    (actor now : Actor H) → threads + i ≡ k → slice_get actors i ≡ Some actor → new.head ≡ old.head →
    OnOk r (new.events ≡ old.events ++ option_to_list (event_for old.head old.events k (asked actor))) →
    OnErr r ((new ≡ old) × (now ≡ actor)) → OnErr r (last_now ≡ last) →
    (last ≤ last_now) × (last_now ≤ length new.events) →
    OnOk r (last_now ≡ last → EndsNothing (event_for old.head old.events k (asked actor))) →
    OnOk r (KnowsWait new.head new.events last_now k now) → KnowsWaits old threads last actors →
    KnowsWaits new threads last_now (set actors i now)
turn_knows (Ok x) old new actors threads last last_now i k actor now e at head events err still up ends knows w =
    actor_knows old new actors threads last last_now i actor now
    (record {
      head_is = head;
      event = event_for old.head old.events k (asked actor);
      events_are = events;
      by = subst (λ z. IfSome (event_for old.head old.events k (asked actor)) (λ e. Stands old.head old.events e × (seat_of e ≡ z))) (sym e)
          (asked_by old.head old.events k (asked actor));
      up = up.0;
      made = up.1;
      ends = ends;
      knows = subst (λ z. KnowsWait new.head new.events last_now z now) (sym e) knows;
    }) w
turn_knows (Err x) old new actors threads last last_now i k actor now e at head events err still up ends knows w =
    subst (λ (b : Contents). KnowsWaits b threads last_now (set actors i now)) (sym err.0)
    (subst (λ l. KnowsWaits old threads l (set actors i now)) (sym still)
    (subst (KnowsWaits old threads last) (sym (in_place actors i actor now at err.1)) w))

-- nothing is known at the start
pub none_known : {H : Type 0} (board : Contents) (threads : ℕ) (actors : List (Actor H)) → IsFresh actors →
    KnowsWaits board threads 0 actors
none_known {H} board threads actors fresh = record {
  made = omega arith;
  each = λ i actor at.
      let there = get_or_from_slice_get actors i actor actor at in
      let first = subst (λ (a : Actor H). a ≡ agenda_at a.asks 0) there (fresh i actor (slice_get_within actors i actor at)).0 in
      subst (KnowsWait board.head board.events 0 (threads + i)) (sym first)
      (at_known board.head board.events 0 (threads + i) actor.asks 0);
}

-- ---- an actor that is known to wait is passed over

stays : (head : Head) (events : List Event) (answers : List ℕ) (k i : ℕ) (o : Option Op) → event_for head events k o ≡ None →
    answers_for head events k o ≡ false →
    ◌≡◌ {A = RunState} (record { events = events ++ option_to_list (event_for head events k o); answers = counted i (answers_for head events k o) answers })
    (record { events = events; answers = answers })
stays head events answers k i o none unanswered = rw (none, unanswered, append-nil) refl

-- where a turn for its operation makes nothing
nothing_made : {H : Type 0} (board : Contents) (threads i k : ℕ) (actors : List (Actor H)) (actor : Actor H) →
    IsPlaying board threads actors → threads + i ≡ k → slice_get actors i ≡ Some actor →
    event_for board.head board.events k (asked actor) ≡ None → answers_for board.head board.events k (asked actor) ≡ false →
    turn board.head (map ops_of actors) (progress_of board.events actors) k ≡ progress_of board.events actors
nothing_made board threads i k actors actor p is at none unanswered =
    let made = actor_turn board.head (map ops_of actors) (progress_of board.events actors) k i (sym is ∙ ap (λ z. z + i) p.threads_are) in
    let asks = asked_is actors i actor at in
    made
    ∙ (ap (λ (o : Option Op). done o) asks
    ∙ stays board.head board.events (map answered_of actors) k i (asked actor) none unanswered)
  where
    done : Option Op → RunState
    done o =
        record {
          events = board.events ++ option_to_list (event_for board.head board.events k o);
          answers = counted i (answers_for board.head board.events k o) (map answered_of actors);
        }

-- where it waits to begin
pub passed_over : {H : Type 0} (board : Contents) (threads i k : ℕ) (actors : List (Actor H)) (actor : Actor H) →
    IsPlaying board threads actors → threads + i ≡ k → slice_get actors i ≡ Some actor →
    MakesNothing board.head board.events (threads + i) (asked actor) →
    turn board.head (map ops_of actors) (progress_of board.events actors) k ≡ progress_of board.events actors
passed_over board threads i k actors actor p is at nothing = go (asked actor) refl
  where
    known : MakesNothing board.head board.events k (asked actor)
    known = subst (λ z. MakesNothing board.head board.events z (asked actor)) is nothing

    go : (o : Option Op) → asked actor ≡ o →
        turn board.head (map ops_of actors) (progress_of board.events actors) k ≡ progress_of board.events actors
    go None none =
        nothing_made board threads i k actors actor p is at (ap (event_for board.head board.events k) none)
        (ap (answers_for board.head board.events k) none)
    go (Some op) some =
        let w = subst (MakesNothing board.head board.events k) some known in
        let next = waiting_next board.head board.events k op w in
        nothing_made board threads i k actors actor p is at (ap (event_for board.head board.events k) some ∙ next)
        (ap (answers_for board.head board.events k) some
        ∙ (ap (λ o. is_answered o (is_full board.head board.events k op)) next ∙ waiting_full board.head board.events k op w))

-- where it is a thread's turn in what it has in flight
pub passed_by : {H : Type 0} (board : Contents) (threads i k : ℕ) (actors : List (Actor H)) (actor : Actor H) →
    IsPlaying board threads actors → threads + i ≡ k → slice_get actors i ≡ Some actor →
    ((op : Op) → MakesNoEvent board.head board.events k op) →
    turn board.head (map ops_of actors) (progress_of board.events actors) k ≡ progress_of board.events actors
passed_by board threads i k actors actor p is at nothing = go (asked actor) refl
  where
    go : (o : Option Op) → asked actor ≡ o →
        turn board.head (map ops_of actors) (progress_of board.events actors) k ≡ progress_of board.events actors
    go None none =
        nothing_made board threads i k actors actor p is at (ap (event_for board.head board.events k) none)
        (ap (answers_for board.head board.events k) none)
    go (Some op) some =
        let m = nothing op in
        nothing_made board threads i k actors actor p is at (ap (event_for board.head board.events k) some ∙ m.no_event)
        (ap (answers_for board.head board.events k) some
        ∙ (ap (λ o. is_answered o (is_full board.head board.events k op)) m.no_event ∙ m.not_full))

-- by what is known of it
pub known_until : {H : Type 0} (board : Contents) (threads last i since : ℕ) (actors : List (Actor H)) (actor : Actor H) →
    KnowsWaits board threads last actors → slice_get actors i ≡ Some actor → actor.waits ≡ UntilEnd since → since ≡ last →
    MakesNothing board.head board.events (threads + i) (asked actor)
known_until board threads last i since actors actor w at noted same =
    (subst (IsKnown board.head board.events last (threads + i) (asked actor)) noted (w.each i actor at)).1 same

map_nothing : (head : Head) (events : List Event) (k : ℕ) (op : Option Op) → NeedsMap head events k op → is_map_held events ≡ true →
    MakesNothing head events k op
map_nothing head events k None h held = tt
map_nothing head events k (Some op) h held = record { ready = h.0; waits = held_waits events op h.1 held }

pub known_held : {H : Type 0} (board : Contents) (threads last i : ℕ) (actors : List (Actor H)) (actor : Actor H) →
    KnowsWaits board threads last actors → slice_get actors i ≡ Some actor → actor.waits ≡ WhileMapHeld →
    is_map_held board.events ≡ true → MakesNothing board.head board.events (threads + i) (asked actor)
known_held board threads last i actors actor w at noted held =
    map_nothing board.head board.events (threads + i) (asked actor)
    (subst (IsKnown board.head board.events last (threads + i) (asked actor)) noted (w.each i actor at)) held

-- and of one with no operation left
pub known_forever : {H : Type 0} (board : Contents) (threads last i : ℕ) (actors : List (Actor H)) (actor : Actor H) →
    KnowsWaits board threads last actors → slice_get actors i ≡ Some actor → actor.waits ≡ Forever →
    MakesNothing board.head board.events (threads + i) (asked actor)
known_forever board threads last i actors actor w at noted =
    subst (MakesNothing board.head board.events (threads + i))
    (sym (subst (IsKnown board.head board.events last (threads + i) (asked actor)) noted (w.each i actor at))) tt

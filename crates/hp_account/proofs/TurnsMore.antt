-- The queue of an upmany after one event more that stands, and that there is room in it.
use Rattle.std.proofs.Common.{◌≡◌, ℕ, ◌<◌, ◌≤◌, Bool, true, false, not, cond, eqb, Option, Some, None, List, [], ◌∷◌, ◌++◌, length, length-append, refl, ap, sym, subst, ◌∙◌, arith}
use Rattle.std.specs.Prelude.{option_map}
use Rattle.std.proofs.lemmas.Bool.{true≢false, eqb-true, eq-eqb}
use Rattle.hp_states.proofs.Basics.{none_some, same_some}
use Rattle.hp_states.specs.declared.dir.Dir.{Dir}
use Rattle.hp_states.specs.Sections.{is_ap_state}
use Rattle.hp_event.specs.declared.how.How.{How}
use Rattle.hp_event.specs.declared.head.Head.{Head}
use Rattle.hp_event.specs.declared.event.Event.{Event}
use Rattle.hp_event.specs.declared.event.Event.TheVariants.{Enter, WalkBegin, Call, WalkEnd, OpEnd}
use Rattle.hp_model.specs.Batch.{is_upmany}
use Rattle.hp_model.specs.BatchQueue.{IsQueue, is_own, from_front, at_end, queue_after}
use Rattle.hp_model.specs.BatchTurn.{is_by, own_walks}
use Rattle.hp_model.specs.Caller.{is_made_by_ap}
use Rattle.hp_model.specs.How.{how_in_walk}
use Rattle.hp_model.specs.Lawful.{Stands, IsLawful}
use Rattle.hp_model.specs.Lists.{among}
use Rattle.hp_model.specs.MapLock.{Operation, operation}
use Rattle.hp_model.specs.NextInWalk.{next_of_walk}
use Rattle.hp_model.specs.Registered.{keys}
use Rattle.hp_model.specs.Seats.{ap_seat}
use Rattle.hp_model.specs.Suspend.{held_by}
use Rattle.hp_model.specs.Walks.{Walk, walk, walking}
use Rattle.hp_model.proofs.HeadlineProof.{lawful_more}
use Rattle.hp_model.proofs.InFlight.{empty_of}
use Rattle.hp_model.proofs.Laws.{operation_push, walk_push}
use Rattle.hp_model.proofs.OneNext.{owners}
use Rattle.hp_model.proofs.Owners.{Owners, map_free, over_at_rest}
use Rattle.hp_model.proofs.QueueMoves.{queue_moves, queue_none, queue_fits}
use Rattle.hp_model.proofs.Stages.{ap_no_client}
use Rattle.hp_model.proofs.WalkGives.{gives_by_caller}
use Rattle.hp_model.proofs.ListLemmas.{none_among}
use Rattle.hp_suspend.specs.Turns.{Queue}
use Rattle.hp_table.specs.Step.{Step}
use Rattle.hp_walk.specs.declared.step.Step.{Step as Ask}
use Rattle.hp_walk.specs.declared.step.Step.TheVariants as ask
use Rattle.hp_walk.specs.Asked.{asked}
use Rattle.hp_walk.specs.Keys.{keys_by}
use Rattle.hp_walk.proofs.Alike.{asked_alike}
use Rattle.hp_account.specs.declared.flights.Flight.{Flight}
use Rattle.hp_account.specs.declared.flights.Flights.{Flights}
use Rattle.hp_account.specs.declared.operation.MapOperation.{MapOperation}
use Rattle.hp_account.specs.BatchTurns.{IsTurns, asks_by, asks_own, FliesWithin, is_batch, CanMove, CanTurn, TurnTaken}
use Rattle.hp_account.specs.Flights.{IsFlight, IsFlights}
use Rattle.hp_account.specs.Operations.{IsHeldBy}
use Rattle.hp_account.specs.Places.{at_place}
use Rattle.hp_account.specs.Table.{IsTableOf}
use Rattle.hp_account.proofs.FlightFacts.{flight_at, no_flight_at, keys_same, within_at}
use Rattle.hp_account.proofs.WalkEntries.{entry_asked, end_gives, by_thread_at}
use Rattle.hp_account.proofs.InBatch.{batch_is}

-- what an entry is by, at a state that a thread serves and at any other
by_caller : (xs : List Event) (k c s i : ℕ) (d : Dir) (how : How) (client : ℕ) (thread : Bool) → Owners xs → (o : Operation) →
    operation xs ≡ Some o → o.seat ≡ k → client ≡ k →
    not thread ≡ is_by k (option_map (λ j. Call j c s i d how) (cond thread (ap_seat c xs) (Some client)))
by_caller xs k c s i d how client false own o held is same = sym (eq-eqb client k same)
by_caller xs k c s i d how client true own o held is same = go (ap_seat c xs) refl
  where
    seat : (j : ℕ) (b : Bool) → ap_seat c xs ≡ Some j → eqb j k ≡ b → false ≡ b
    seat j false e q = refl
    seat j true e q = absurd (ap_no_client xs c o.seat own (e ∙ ap Some (eqb-true j k q ∙ sym is)) (own.op_client o held))

    go : (v : Option ℕ) → ap_seat c xs ≡ v → false ≡ is_by k (option_map (λ j. Call j c s i d how) v)
    go None e = refl
    go (Some j) e = seat j (eqb j k) e refl

-- what the walk of a processor asks for is its client's to make exactly where its next event is
pub own_is : (head : Head) (xs : List Event) (places : List (Option Step)) (f : Flights) (o : Operation) (c : ℕ) → IsLawful head xs →
    IsFlights head xs f → IsTableOf head xs places → operation xs ≡ Some o →
    asks_own (keys_by places) (at_place f.by_cpu.items c) ≡ is_own head xs o.seat c
own_is head xs places f o c lawful t table held = go (at_place f.by_cpu.items c) refl
  where
    own : Owners xs
    own = owners head xs lawful

    client : (g : Flight) (b : IsFlight head xs c g) → g.seat ≡ o.seat
    client g b =
        let w = own.walk_op c b.of b.in_flight in
        b.seat_is ∙ (sym w.2 ∙ ap (λ (x : Operation). x.seat) (same_some w.0 o (sym w.1 ∙ held)))

    by : (g : Flight) (b : IsFlight head xs c g) (x : Ask) → asked (keys head b.of.before) g.walk ≡ x → asks_by x ≡ is_own head xs o.seat c
    by g b (ask.Call key d place first) e =
        let a = entry_asked head xs c g key d place first b e in
        let how = how_in_walk head xs c key.state key.inst d place first in
        let gives = gives_by_caller head xs c key.state key.inst d how a.0 in
        let thread : is_made_by_ap key.state how ≡ is_ap_state key.state = by_thread_at head xs c key.state key.inst d place first in
        ap not (sym thread)
        ∙ (by_caller xs o.seat c key.state key.inst d how a.0.of.seat (is_made_by_ap key.state how) own o held refl (a.1 ∙ client g b)
        ∙ ap (is_by o.seat) (sym gives))
    by g b (ask.Ended answer) e = sym (ap (is_by o.seat) (end_gives head xs c g answer b e) ∙ eq-eqb g.seat o.seat (client g b))

    go : (v : Option Flight) → at_place f.by_cpu.items c ≡ v → asks_own (keys_by places) v ≡ is_own head xs o.seat c
    go None e = sym (ap (λ z. is_by o.seat (next_of_walk head xs c z)) (no_flight_at head xs f c t e))
    go (Some g) e =
        let b = flight_at head xs f c g t e in
        let K = keys head b.of.before in
        let same : (s : ℕ) → K s ≡ keys_by places s = λ s. keys_same head xs places c g b s lawful table in
        ap asks_by (sym (asked_alike K (keys_by places) same g.walk)) ∙ by g b (asked K g.walk) refl

-- the upmany in flight
pub upmany_of : (v : Option Operation) → held_by is_upmany v ≡ true → (o : Operation) × (v ≡ Some o) × (is_upmany o.op ≡ true)
upmany_of None u = absurd (true≢false (sym u))
upmany_of (Some o) u = (o, refl, u)

-- where an event leaves the operation, its queue moves as that of the journal
moved : (head : Head) (es : List Event) (e : Event) (o : Operation) (queue : Queue) → IsLawful head es → Stands head es e →
    operation es ≡ Some o → is_upmany o.op ≡ true → operation (es ++ e ∷ []) ≡ operation es → IsTurns head es queue →
    IsQueue head (es ++ e ∷ []) o.seat (queue_after (is_own head (es ++ e ∷ []) o.seat) queue.cpus e)
moved head es e o queue lawful stands held u same t =
    queue_moves head es e o queue.cpus (owners head es lawful) stands.0 held u (same ∙ held) (t.queue_is o held u)

-- ---- room

can_move : (head : Head) (es : List Event) (places : List (Option Step)) (e : Event) (c : ℕ) (new : Flights) (queue : Queue)
    (o : Operation) → IsLawful head (es ++ e ∷ []) → IsTableOf head (es ++ e ∷ []) places → IsFlights head (es ++ e ∷ []) new →
    head.possible ≤ queue.room → operation (es ++ e ∷ []) ≡ Some o →
    IsQueue head (es ++ e ∷ []) o.seat (at_end (is_own head (es ++ e ∷ []) o.seat c) c (from_front c queue.cpus)) →
    CanMove (keys_by places) c new queue
can_move head es places e c new queue o lawful t is room held q = (within (at_place new.by_cpu.items c) refl, fits)
  where
    ys : List Event
    ys = es ++ e ∷ []

    within : (v : Option Flight) → at_place new.by_cpu.items c ≡ v → FliesWithin (keys_by places) v
    within None at = tt
    within (Some g) at = within_at head ys places new c g lawful is t at

    fits : asks_own (keys_by places) (at_place new.by_cpu.items c) ≡ true → length (from_front c queue.cpus) < queue.room
    fits own =
        let mine : is_own head ys o.seat c ≡ true = sym (own_is head ys places new o c lawful is t held) ∙ own in
        let after : IsQueue head ys o.seat (from_front c queue.cpus ++ c ∷ []) =
        subst (λ b. IsQueue head ys o.seat (at_end b c (from_front c queue.cpus))) mine q in
        let most = queue_fits head ys o.seat (from_front c queue.cpus ++ c ∷ []) lawful after in
        let more = length-append (from_front c queue.cpus) (c ∷ []) in
        omega (arith, most, more, room)

pub can_turn : (head : Head) (es : List Event) (places : List (Option Step)) (held : Option MapOperation) (e : Event) (new : Flights)
    (queue : Queue) → IsLawful head es → Stands head es e → IsTableOf head (es ++ e ∷ []) places → IsHeldBy head es held →
    IsTurns head es queue → IsFlights head (es ++ e ∷ []) new → CanTurn (keys_by places) (is_batch held) e new queue
can_turn head es places held e new queue lawful stands t by turns is = go (is_batch held) refl
  where
    later : IsLawful head (es ++ e ∷ [])
    later = lawful_more head es e lawful stands

    move : (x : Event) (c : ℕ) → e ≡ x → (o : Operation) × (operation es ≡ Some o) × (is_upmany o.op ≡ true) →
        operation (es ++ x ∷ []) ≡ operation es →
        ((own : ℕ → Bool) → queue_after own queue.cpus x ≡ at_end (own c) c (from_front c queue.cpus)) → CanMove (keys_by places) c new queue
    move x c at o same after =
        let kept : operation (es ++ e ∷ []) ≡ operation es = ap (λ z. operation (es ++ z ∷ [])) at ∙ same in
        let own = is_own head (es ++ e ∷ []) o.0.seat in
        let q = moved head es e o.0 queue lawful stands o.1 o.2 kept turns in
        can_move head es places e c new queue o.0 later t is turns.room (kept ∙ o.1)
        (subst (IsQueue head (es ++ e ∷ []) o.0.seat) (ap (queue_after own queue.cpus) at ∙ after own) q)

    walked : (x : Event) → e ≡ x → (o : Operation) × (operation es ≡ Some o) × (is_upmany o.op ≡ true) → CanTurn (keys_by places) true x new queue
    walked (WalkBegin seat c from to) at o =
        move (WalkBegin seat c from to) c at o (operation_push es (WalkBegin seat c from to)) (λ own. refl)
    walked (Call seat c state inst dir how) at o =
        move (Call seat c state inst dir how) c at o (operation_push es (Call seat c state inst dir how)) (λ own. refl)
    walked (WalkEnd seat c answer) at o =
        move (WalkEnd seat c answer) c at o (operation_push es (WalkEnd seat c answer)) (λ own. refl)
    walked x at o = tt

    go : (b : Bool) → is_batch held ≡ b → CanTurn (keys_by places) b e new queue
    go false b = tt
    go true b = walked e refl (upmany_of (operation es) (sym (batch_is head es held by) ∙ b))

-- ---- the queue after an event

-- what is moved is the queue of the journal
turned_queue : (keys : ℕ → List ℕ) (own : ℕ → Bool) (e : Event) (f : Flights) (queue after : Queue) →
    ((c : ℕ) → asks_own keys (at_place f.by_cpu.items c) ≡ own c) → TurnTaken keys true e f queue after →
    (after.cpus ≡ queue_after own queue.cpus e) × (after.room ≡ queue.room)
turned_queue keys own (WalkBegin seat c from to) f queue after same h =
    (h.cpus_are ∙ ap (λ b. at_end b c (from_front c queue.cpus)) (same c), h.room_is)
turned_queue keys own (Call seat c state inst dir how) f queue after same h =
    (h.cpus_are ∙ ap (λ b. at_end b c (from_front c queue.cpus)) (same c), h.room_is)
turned_queue keys own (WalkEnd seat c answer) f queue after same h =
    (h.cpus_are ∙ ap (λ b. at_end b c (from_front c queue.cpus)) (same c), h.room_is)
turned_queue keys own e f queue after same h = (ap (λ (q : Queue). q.cpus) h, ap (λ (q : Queue). q.room) h)

-- where nothing walks it is empty
at_rest : (head : Head) (es : List Event) (queue : Queue) → walking es ≡ [] → IsTurns head es queue → queue.cpus ≡ []
at_rest head es queue rest t = go (held_by is_upmany (operation es)) refl
  where
    go : (b : Bool) → held_by is_upmany (operation es) ≡ b → queue.cpus ≡ []
    go false single = t.empty single
    go true u =
        let o = upmany_of (operation es) u in
        let q = t.queue_is o.0 o.1 o.2 in
        none_among queue.cpus (λ c. q.same c ∙ none c o.0.seat)
      where
        none : (c k : ℕ) → among c (own_walks head es k) ≡ false
        none c k = rw rest refl

-- an event that leaves the operation
stays : (head : Head) (es : List Event) (places : List (Option Step)) (held : Option MapOperation) (e : Event) (new : Flights)
    (queue after : Queue) → IsLawful head es → Stands head es e → IsTableOf head (es ++ e ∷ []) places → IsHeldBy head es held →
    IsTurns head es queue → IsFlights head (es ++ e ∷ []) new → operation (es ++ e ∷ []) ≡ operation es →
    TurnTaken (keys_by places) (is_batch held) e new queue after → IsTurns head (es ++ e ∷ []) after
stays head es places held e new queue after lawful stands t by turns is same turned = go (is_batch held) refl turned
  where
    ys : List Event
    ys = es ++ e ∷ []

    go : (b : Bool) → is_batch held ≡ b → TurnTaken (keys_by places) b e new queue after → IsTurns head ys after
    go false b h =
        let single : held_by is_upmany (operation es) ≡ false = sym (batch_is head es held by) ∙ b in
        record {
          room = let r = ap (λ (q : Queue). q.room) h in subst (λ n. head.possible ≤ n) (sym r) turns.room;
          queue_is = λ o at u. absurd (true≢false (sym u ∙ (sym (ap (held_by is_upmany) (sym same ∙ at)) ∙ single)));
          empty = λ m. ap (λ (q : Queue). q.cpus) h ∙ turns.empty single;
        }
    go true b h =
        let u = sym (batch_is head es held by) ∙ b in
        let o = upmany_of (operation es) u in
        let there : operation ys ≡ Some o.0 = same ∙ o.1 in
        let q = moved head es e o.0 queue lawful stands o.1 o.2 same turns in
        let m = turned_queue (keys_by places) (is_own head ys o.0.seat) e new queue after
        (λ c. own_is head ys places new o.0 c (lawful_more head es e lawful stands) is t there) h in
        let now : IsQueue head ys o.0.seat after.cpus = subst (IsQueue head ys o.0.seat) (sym m.0) q in
        record {
          room = subst (λ n. head.possible ≤ n) (sym m.1) turns.room;
          queue_is = λ p at v. subst (λ (x : Operation). IsQueue head ys x.seat after.cpus) (same_some o.0 p (sym there ∙ at)) now;
          empty = λ single. absurd (true≢false (sym (ap (held_by is_upmany) same ∙ u) ∙ single));
        }

-- an event that leaves the queue too
pub turns_stay : (head : Head) (es : List Event) (e : Event) (queue : Queue) → IsLawful head es → Stands head es e →
    IsTurns head es queue → ((own : ℕ → Bool) → queue_after own queue.cpus e ≡ queue.cpus) → operation (es ++ e ∷ []) ≡ operation es →
    IsTurns head (es ++ e ∷ []) queue
turns_stay head es e queue lawful stands turns off same = record {
  room = turns.room;
  queue_is = λ o at u.
      subst (IsQueue head (es ++ e ∷ []) o.seat) (off (is_own head (es ++ e ∷ []) o.seat))
      (moved head es e o queue lawful stands (sym same ∙ at) u same turns);
  empty = λ m. turns.empty (ap (held_by is_upmany) (sym same) ∙ m);
}

-- a queue that stays empty, where no operation walks
emptied : (head : Head) (es : List Event) (queue after : Queue) → after ≡ queue → queue.cpus ≡ [] → head.possible ≤ queue.room →
    ((o : Operation) → operation es ≡ Some o → (c : ℕ) → walk c es ≡ None) → IsTurns head es after
emptied head es queue after same none room still =
    let empty : after.cpus ≡ [] = ap (λ (q : Queue). q.cpus) same ∙ none in
    record {
      room = let r = ap (λ (q : Queue). q.room) same in subst (λ n. head.possible ≤ n) (sym r) room;
      queue_is = λ o at u. subst (IsQueue head es o.seat) (sym empty) (queue_none head es o.seat (still o at));
      empty = λ m. empty;
    }

pub turns_more : (head : Head) (es : List Event) (places : List (Option Step)) (held : Option MapOperation) (e : Event) (new : Flights)
    (queue after : Queue) → IsLawful head es → Stands head es e → IsTableOf head (es ++ e ∷ []) places → IsHeldBy head es held →
    IsTurns head es queue → IsFlights head (es ++ e ∷ []) new → TurnTaken (keys_by places) (is_batch held) e new queue after →
    IsTurns head (es ++ e ∷ []) after
turns_more head es places held (Enter seat op) new queue after lawful stands t by turns is turned =
    emptied head (es ++ e ∷ []) queue after (same (is_batch held) turned) (turns.empty (ap (held_by is_upmany) free)) turns.room
    (λ o at c. walk_push c es e ∙ still c (walk c es) refl)
  where
    e : Event
    e = Enter seat op

    free : operation es ≡ None
    free = map_free es op stands.0.takes_map stands.0.passes.not_waiting

    same : (b : Bool) → TurnTaken (keys_by places) b (Enter seat op) new queue after → after ≡ queue
    same true h = h
    same false h = h

    still : (c : ℕ) (v : Option Walk) → walk c es ≡ v → v ≡ None
    still c None at = refl
    still c (Some w) at = let p = (owners head es lawful).walk_op c w at in absurd (none_some p.0 (sym free ∙ p.1))
turns_more head es places held (OpEnd seat answer) new queue after lawful stands t by turns is turned =
    emptied head (es ++ e ∷ []) queue after (same (is_batch held) turned)
    (at_rest head es queue (empty_of (walking es) (over_at_rest head es seat answer (owners head es lawful) stands.0)) turns) turns.room
    (λ o at c. absurd (none_some o (sym (operation_push es e) ∙ at)))
  where
    e : Event
    e = OpEnd seat answer

    same : (b : Bool) → TurnTaken (keys_by places) b (OpEnd seat answer) new queue after → after ≡ queue
    same true h = h
    same false h = h
turns_more head es places held e new queue after lawful stands t by turns is turned =
    stays head es places held e new queue after lawful stands t by turns is (operation_push es e) turned

-- Which entries are due in an upmany: of the threads that are awaited and in, and of its own seat in the walk whose turn it is.
use Rattle.std.proofs.Common.{◌≡◌, ℕ, ◌≤◌, Bool, true, false, not, ◌&&◌, ◌||◌, eqb, is_some, ◌↔◌, Option, Some, None, IfSome, IfNone, List, ◌⊎◌, inl, inr, refl, ap, sym, subst, ◌∙◌, arith}
use Rattle.std.specs.Prelude.{option_map}
use Rattle.std.specs.Bool.{then_some}
use Rattle.std.proofs.lemmas.Bool.{false≢true, eqb-true, eq-eqb, and_parts}
use Rattle.hp_states.proofs.Basics.{none_some, same_some}
use Rattle.hp_states.specs.CpuSets.{has}
use Rattle.hp_event.specs.Story.{Story}
use Rattle.hp_event.specs.declared.event.Event.TheVariants.{Call, WalkEnd}
use Rattle.hp_model.specs.Batch.{is_upmany}
use Rattle.hp_model.specs.BatchQueue.{is_own}
use Rattle.hp_model.specs.BatchTurn.{turn_of, is_it, is_by, has_turn}
use Rattle.hp_model.specs.Events.{seat_of, is_call}
use Rattle.hp_model.specs.Lists.{among}
use Rattle.hp_model.specs.NextInWalk.{next_of_walk}
use Rattle.hp_model.specs.Seats.{ap_seat, role_of}
use Rattle.hp_model.specs.Suspend.{held_by}
use Rattle.hp_model.specs.Walks.{Walk, walk}
use Rattle.hp_model.proofs.OneNext.{owners}
use Rattle.hp_model.proofs.QueueMoves.{own_among}
use Rattle.hp_model.proofs.Stages.{ap_no_client}
use Rattle.hp_model.proofs.TurnLemmas.{OwnEvent, turn_own}
use Rattle.hp_suspend.specs.declared.batch.Batch.{Batch as ABatch}
use Rattle.hp_table.specs.Step.{Step}
use Rattle.hp_walk.specs.Keys.{keys_by}
use Rattle.hp_account.specs.declared.flights.Flight.{Flight}
use Rattle.hp_account.specs.declared.account.Account.{Account}
use Rattle.hp_account.specs.declared.under_way.NextStep.{NextStep}
use Rattle.hp_account.specs.Batches.{IsKnown, IsUpmanyAt, IsServed, NoneServed, NoneServedFrom, IsServedFrom}
use Rattle.hp_account.specs.Seats.{IsRoll}
use Rattle.hp_machine.specs.Machine.{IsMachine}
use Rattle.hp_machine.proofs.LowestDue.{AreDue}
use Rattle.hp_account.specs.BatchTurns.{asks_own, asks_entry, is_batch}
use Rattle.hp_account.specs.Places.{at_place}
use Rattle.hp_account.specs.UnderWay.{IsDueOn, IsThreadDue, NoThreadDue}
use Rattle.hp_machine.proofs.BatchDue.{IsSeatsNext, due_there, there_due, turn_if}
use Rattle.hp_machine.proofs.BatchWalks.{Goes, goes}
use Rattle.hp_account.proofs.FlightFacts.{flight_of, flies, flown}
use Rattle.hp_account.proofs.InBatch.{batch_is, known_idle}
use Rattle.hp_account.proofs.PlaceLemmas.{at_place-within}
use Rattle.hp_account.proofs.TurnsMore.{own_is}

-- an upmany of a machine
module _ {j : Story} {p : Account} {coming : Option NextStep} {places : List (Option Step)} {holder : ℕ} {b : ABatch}
    (m : IsMachine j p coming places) (up : IsUpmanyAt j.head j.events holder b)
  where
    upmany : is_upmany up.of.op ≡ true
    upmany = ap is_upmany up.op_is

    asks : (c : ℕ) (g : Flight) → at_place p.flights.by_cpu.items c ≡ Some g →
        Goes j.head j.events c holder (asks_own (keys_by places) (Some g)) (asks_entry (keys_by places) (Some g))
    asks c g at =
        subst (λ s. Goes j.head j.events c s (asks_own (keys_by places) (Some g)) (asks_entry (keys_by places) (Some g))) up.seat_is
        (goes j.head j.events places p.flights up.of c g m.kept.lawful m.kept.account.flights m.table_is up.held at)

    own_walk : (c : ℕ) → asks_own (keys_by places) (at_place p.flights.by_cpu.items c) ≡ is_own j.head j.events holder c
    own_walk c =
        own_is j.head j.events places p.flights up.of c m.kept.lawful m.kept.account.flights m.table_is up.held
        ∙ ap (λ s. is_own j.head j.events s c) up.seat_is

    turn_is : (c k : ℕ) → has_turn j.head j.events k c ≡ (not (eqb k holder) || is_it c (turn_of j.head j.events holder))
    turn_is c k =
        turn_if j.head j.events up.of k c up.held upmany
        ∙ ap (λ s. not (eqb k s) || is_it c (turn_of j.head j.events s)) up.seat_is

    -- a thread is no client, so it isn't the upmany's seat
    not_holder : (c k : ℕ) → ap_seat c j.events ≡ Some k → k ≡ holder → ⊥
    not_holder c k a s =
        let own = owners j.head j.events m.kept.lawful in
        ap_no_client j.events c k own a (ap (λ z. role_of z j.events) (s ∙ sym up.seat_is) ∙ own.op_client up.of up.held)

    -- a processor is awaited exactly where it walks, and its next event isn't the upmany's seat's
    awaited_is : (c : ℕ) →
        has p.awaited c ≡ (has p.flights.walking c && not (asks_own (keys_by places) (at_place p.flights.by_cpu.items c)))
    awaited_is c =
        let a = m.kept.account in
        let batch : is_batch p.operation ≡ true =
        batch_is j.head j.events p.operation a.operation ∙ (ap (held_by is_upmany) up.held ∙ upmany) in
        let queue =
        (a.turns.queue_is up.of up.held upmany).same c
        ∙ (own_among j.head j.events up.of.seat c ∙ ap (λ s. is_own j.head j.events s c) up.seat_is) in
        a.awaited c
        ∙ (ap (λ z. z && (has p.flights.walking c && not (among c p.turns.cpus))) batch
        ∙ ap (λ z. has p.flights.walking c && not z) (queue ∙ sym (own_walk c)))

    -- the thread's entry is due, where one is awaited and in
    served_due : (c k : ℕ) → IsServed p c k → IsThreadDue j.head j.events c k
    served_due c k s = record { thread_is = seat; due = go (asks c f.0 f.1) }
      where
        parts : (has p.flights.walking c ≡ true) × (not (asks_own (keys_by places) (at_place p.flights.by_cpu.items c)) ≡ true)
        parts =
            and_parts (has p.flights.walking c) (not (asks_own (keys_by places) (at_place p.flights.by_cpu.items c)))
            (sym (awaited_is c) ∙ s.0)

        f : (g : Flight) × (at_place p.flights.by_cpu.items c ≡ Some g)
        f = flown j.head j.events p.flights c m.kept.account.flights parts.0

        not_own : asks_own (keys_by places) (Some f.0) ≡ true → ⊥
        not_own h = absurd (false≢true (sym (ap not (ap (asks_own (keys_by places)) f.1 ∙ h)) ∙ parts.1))

        seat : ap_seat c j.events ≡ Some k
        seat = m.kept.account.seats.threads_are c ∙ s.1

        other : (z : Bool) → eqb k holder ≡ z → (not z || is_it c (turn_of j.head j.events holder)) ≡ true
        other true e = absurd (not_holder c k seat (eqb-true k holder e))
        other false e = refl

        go : Goes j.head j.events c holder (asks_own (keys_by places) (Some f.0)) (asks_entry (keys_by places) (Some f.0)) →
            IsDueOn j.head j.events c k
        go (inl h) =
            there_due j.head j.events c k m.kept.lawful
            (record {
              entry = Call k c h.1.state h.1.inst h.1.dir h.1.how;
              gives = h.1.gives ∙ ap (option_map (λ i. Call i c h.1.state h.1.inst h.1.dir h.1.how)) seat;
              is_entry = refl;
              seat_is = refl;
              cpu_is = refl;
              turn = turn_is c k ∙ other (eqb k holder) refl;
            })
        go (inr (inl h)) = absurd (not_own h.0)
        go (inr (inr h)) = absurd (not_own h.0)

    -- the seat's own entry of a processor: it is that one's turn, and its walk goes on with an entry
    abbrev IsOwn : (c : ℕ) → Type 0
    IsOwn c =
        (turn_of j.head j.events holder ≡ Some c)
        × (asks_entry (keys_by places) (at_place p.flights.by_cpu.items c) ≡ true)

    -- is due too
    own_due : (c : ℕ) → IsOwn c → IsDueOn j.head j.events c holder
    own_due c h = go (asks c f.0 f.1)
      where
        n : OwnEvent j.head j.events holder c
        n = turn_own j.head j.events holder c h.0

        f : (g : Flight) × (at_place p.flights.by_cpu.items c ≡ Some g)
        f = flight_of j.head j.events p.flights c m.kept.account.flights (ap is_some n.in_flight)

        own : asks_own (keys_by places) (Some f.0) ≡ true
        own =
            sym (ap (asks_own (keys_by places)) f.1)
            ∙ (own_walk c ∙ (ap (is_by holder) n.gives ∙ eq-eqb (seat_of n.event) holder n.by))

        entry : asks_entry (keys_by places) (Some f.0) ≡ true
        entry = sym (ap (asks_entry (keys_by places)) f.1) ∙ h.1

        turn : (not (eqb holder holder) || is_it c (turn_of j.head j.events holder)) ≡ true
        turn =
            let self = eq-eqb holder holder refl in
            let it = eq-eqb c c refl in
            rw self (ap (is_it c) h.0 ∙ it)

        go : Goes j.head j.events c holder (asks_own (keys_by places) (Some f.0)) (asks_entry (keys_by places) (Some f.0)) →
            IsDueOn j.head j.events c holder
        go (inl g) = absurd (false≢true (sym g.0 ∙ own))
        go (inr (inl g)) =
            there_due j.head j.events c holder m.kept.lawful
            (record {
              entry = Call holder c g.2.state g.2.inst g.2.dir g.2.how;
              gives = g.2.gives;
              is_entry = refl;
              seat_is = refl;
              cpu_is = refl;
              turn = turn_is c holder ∙ turn;
            })
        go (inr (inr g)) = absurd (false≢true (sym g.1 ∙ entry))

    -- and no other is
    due_either : (c k : ℕ) → IsKnown j.head j.events → IsDueOn j.head j.events c k → IsServed p c k ⊎ ((k ≡ holder) × IsOwn c)
    due_either c k known d = there (walk c j.events) refl
      where
        n : IsSeatsNext j.head j.events c k
        n = due_there j.head j.events c k (known_idle j.head j.events m.kept.lawful known) d

        turned : k ≡ holder → turn_of j.head j.events holder ≡ Some c
        turned s = go (turn_of j.head j.events holder) (mine (eqb k holder) (eq-eqb k holder s) (sym (turn_is c k) ∙ n.turn))
          where
            mine : (z : Bool) → z ≡ true → (not z || is_it c (turn_of j.head j.events holder)) ≡ true →
                is_it c (turn_of j.head j.events holder) ≡ true
            mine true e h = h
            mine false e h = absurd (false≢true e)

            go : (v : Option ℕ) → is_it c v ≡ true → v ≡ Some c
            go None h = absurd (false≢true h)
            go (Some x) h = ap Some (eqb-true x c h)

        by : (g : Flight) → at_place p.flights.by_cpu.items c ≡ Some g → has p.flights.walking c ≡ true →
            Goes j.head j.events c holder (asks_own (keys_by places) (Some g)) (asks_entry (keys_by places) (Some g)) →
            IsServed p c k ⊎ ((k ≡ holder) × IsOwn c)
        by g at walks (inl h) = seat (ap_seat c j.events) refl
          where
            seat : (v : Option ℕ) → ap_seat c j.events ≡ v → IsServed p c k ⊎ ((k ≡ holder) × IsOwn c)
            seat None e =
                absurd (none_some n.entry
                (sym (h.1.gives ∙ ap (option_map (λ i. Call i c h.1.state h.1.inst h.1.dir h.1.how)) e) ∙ n.gives))
            seat (Some i) e =
                let same : Call i c h.1.state h.1.inst h.1.dir h.1.how ≡ n.entry =
                same_some (Call i c h.1.state h.1.inst h.1.dir h.1.how) n.entry
                (sym (h.1.gives ∙ ap (option_map (λ i. Call i c h.1.state h.1.inst h.1.dir h.1.how)) e) ∙ n.gives) in
                inl (
                  awaited_is c
                      ∙ (ap (λ z. z && not (asks_own (keys_by places) (at_place p.flights.by_cpu.items c))) walks
                      ∙ ap not (ap (asks_own (keys_by places)) at ∙ h.0)),
                  sym (m.kept.account.seats.threads_are c) ∙ (e ∙ ap Some (ap seat_of same ∙ n.seat_is)),
                )
        by g at walks (inr (inl h)) =
            let same : Call holder c h.2.state h.2.inst h.2.dir h.2.how ≡ n.entry =
            same_some (Call holder c h.2.state h.2.inst h.2.dir h.2.how) n.entry (sym h.2.gives ∙ n.gives) in
            let own = sym (ap seat_of same ∙ n.seat_is) in
            inr (own, (turned own, ap (asks_entry (keys_by places)) at ∙ h.1))
        by g at walks (inr (inr h)) =
            let same : WalkEnd holder c h.2.answer ≡ n.entry =
            same_some (WalkEnd holder c h.2.answer) n.entry (sym h.2.gives ∙ n.gives) in
            absurd (false≢true (ap is_call same ∙ n.is_entry))

        there : (v : Option Walk) → walk c j.events ≡ v → IsServed p c k ⊎ ((k ≡ holder) × IsOwn c)
        there None e = absurd (none_some n.entry (ap (λ z. next_of_walk j.head j.events c z) (sym e) ∙ n.gives))
        there (Some w) e =
            let f = flight_of j.head j.events p.flights c m.kept.account.flights (ap is_some e) in
            by f.0 f.1 (flies j.head j.events p.flights c f.0 m.kept.account.flights f.1) (asks c f.0 f.1)

    -- ---- the seat's own

    own_turn : (c : ℕ) → IsKnown j.head j.events → IsDueOn j.head j.events c holder → IsOwn c
    own_turn c known d = go (due_either c holder known d)
      where
        go : IsServed p c holder ⊎ ((holder ≡ holder) × IsOwn c) → IsOwn c
        go (inl s) = absurd (not_holder c holder (m.kept.account.seats.threads_are c ∙ s.1) refl)
        go (inr own) = own.1

    pub owns_none : (c : ℕ) → IsKnown j.head j.events → turn_of j.head j.events holder ≡ None →
        IsDueOn j.head j.events c holder ↔ (None ≡ Some c)
    owns_none c known none = (
      λ d. absurd (none_some c (sym none ∙ (own_turn c known d).0)),
      λ e. absurd (none_some c e),
    )

    pub owns_turn : (t c : ℕ) → IsKnown j.head j.events → turn_of j.head j.events holder ≡ Some t →
        IsDueOn j.head j.events c holder
        ↔ (then_some (asks_entry (keys_by places) (at_place p.flights.by_cpu.items t)) t ≡ Some c)
    owns_turn t c known turn = go (asks_entry (keys_by places) (at_place p.flights.by_cpu.items t)) refl
      where
        same : IsDueOn j.head j.events c holder → t ≡ c
        same d = same_some t c (sym turn ∙ (own_turn c known d).0)

        go : (z : Bool) → asks_entry (keys_by places) (at_place p.flights.by_cpu.items t) ≡ z →
            IsDueOn j.head j.events c holder ↔ (then_some z t ≡ Some c)
        go true e = (
          λ d. ap Some (same d),
          λ s. subst (λ x. IsDueOn j.head j.events x holder) (same_some t c s) (own_due t (turn, e)),
        )
        go false e = (
          λ d.
              let here = ap (λ x. asks_entry (keys_by places) (at_place p.flights.by_cpu.items x)) (same d) in
              absurd (false≢true (sym e ∙ (here ∙ (own_turn c known d).1))),
          λ s. absurd (none_some c s),
        )

    -- ---- the threads'

    no_thread : (from to : ℕ) → IsKnown j.head j.events → NoneServed p from to → NoThreadDue j.head j.events from to
    no_thread from to known none c k low high t = go (due_either c k known t.due)
      where
        go : IsServed p c k ⊎ ((k ≡ holder) × IsOwn c) → ⊥
        go (inl s) = none_some k (sym (none c low high s.0) ∙ s.1)
        go (inr own) = not_holder c k t.thread_is own.0

    pub thread_some : (from : ℕ) (found : Option (ℕ × ℕ)) → IsKnown j.head j.events →
        IfSome found (λ due. IsServedFrom p from due.0 due.1) →
        IfSome found (λ due. (from ≤ due.0) × IsThreadDue j.head j.events due.0 due.1 × NoThreadDue j.head j.events from due.0)
    thread_some from None known s = tt
    thread_some from (Some due) known s =
        (s.at_least, served_due due.0 due.1 s.served, no_thread from due.0 known s.none_below)

    pub thread_none : (from to : ℕ) (found : Option (ℕ × ℕ)) → IsKnown j.head j.events → IfNone found (NoneServedFrom p from) →
        IfNone found (NoThreadDue j.head j.events from to)
    thread_none from to None known none = no_thread from to known (λ c low high. none c low)
    thread_none from to (Some due) known none = tt

    -- ---- both

    pub are_due : (own : Option ℕ) → IsKnown j.head j.events → ((c : ℕ) → IsDueOn j.head j.events c holder ↔ (own ≡ Some c)) →
        AreDue j.head j.events holder own
    are_due own known own_is = record {
      either = λ c k d. either c k d (due_either c k known d);
      possible = λ c k t.
          let within = at_place-within p.seats.threads c k (sym (seats.threads_are c) ∙ t.thread_is) in
          let cpus = seats.cpus in
          omega (arith, within, cpus);
      own_is = own_is;
    }
      where
        seats : IsRoll j.head j.events p.seats
        seats = m.kept.account.seats

        either : (c k : ℕ) → IsDueOn j.head j.events c k → IsServed p c k ⊎ ((k ≡ holder) × IsOwn c) →
            IsThreadDue j.head j.events c k ⊎ (k ≡ holder)
        either c k d (inl s) = inl (record { thread_is = seats.threads_are c ∙ s.1; due = d })
        either c k d (inr own) = inr own.0

-- What a turn of a client's seat finds: an event, no room, a wait, or a thread's entry.
use Rattle.std.proofs.Common.{◌≡◌, ℕ, Bool, true, false, not, ◌&&◌, ◌||◌, eqb, ltb, Option, Some, None, List, [], ◌∷◌, refl, ap, sym, ◌∙◌, inl, inr, ◌⊎◌}
use Rattle.std.proofs.lemmas.Bool.{false≢true, eqb-true, eq-eqb, and_parts}
use Rattle.hp_states.proofs.Basics.{same_some}
use Rattle.hp_event.specs.declared.op.Op.{Op}
use Rattle.hp_event.specs.declared.answer.Answer.TheVariants.{LogFull}
use Rattle.hp_event.specs.declared.head.Head.{Head}
use Rattle.hp_event.specs.declared.event.Event.{Event}
use Rattle.hp_event.specs.declared.event.Event.TheVariants.{Refused, WalkBegin, Call, WalkEnd, OpEnd, RegEnd}
use Rattle.hp_model.specs.Lists.{among}
use Rattle.hp_model.specs.Events.{seat_of, is_registration_op, BelongsTo}
use Rattle.hp_model.specs.Walks.{Walk, walk, walking, is_walking}
use Rattle.hp_model.specs.Registrations.{Registration, registration}
use Rattle.hp_model.specs.MapLock.{Operation, operation, is_map_op}
use Rattle.hp_model.specs.Seats.{holds_map, registers, is_busy, IsFree}
use Rattle.hp_model.specs.Settled.{settled}
use Rattle.hp_model.specs.Sequence.{Next, walks, ends, nothing, next}
use Rattle.hp_model.specs.Waits.{Wait, wait_to_walk, wait_to_begin}
use Rattle.hp_model.specs.Refusals.{refusal}
use Rattle.hp_model.specs.Caller.{is_made_by_ap}
use Rattle.hp_model.specs.Room.{has_room}
use Rattle.hp_model.specs.StandsOperations.{WalkBegins}
use Rattle.hp_model.specs.Lawful.{Stands, IsLawful}
use Rattle.hp_model.specs.Moves.{IsOfThread}
use Rattle.hp_model.specs.Batch.{is_upmany, to_begin}
use Rattle.hp_model.specs.BatchTurn.{turn_of, brings_up, has_turn}
use Rattle.hp_model.specs.ApTurn.{is_held_up}
use Rattle.hp_model.specs.Pending.{Pending, IsAllowed}
use Rattle.hp_model.specs.Turns.{TurnFinds}
use Rattle.hp_model.proofs.InFlight.{walking_is}
use Rattle.hp_model.proofs.WaitLemmas.{first_among}
use Rattle.hp_model.proofs.Kept.{WalkKept, RegistrationKept}
use Rattle.hp_model.proofs.NextOfWalk.{EndsNext, EntryNext, ends_with, walk_next}
use Rattle.hp_model.proofs.BatchLemmas.{between_rest}
use Rattle.hp_model.proofs.TurnLemmas.{single_brings, single_held_up, single_turn, held_up_is, Lowest, lowest_is}
use Rattle.hp_model.proofs.BatchNext.{ThreadNext, BatchNext, begins, makes, threads, batch_next}
use Rattle.hp_model.proofs.NextOfRegistration as reg
use Rattle.hp_model.proofs.FirstEvents.{ComesOf, first_comes}
use Rattle.hp_model.proofs.SomeMoves.{Facts, facts, some_of, entered_op, registers_op, next_some}
use Rattle.hp_model.proofs.DueGives.{call_belongs}

-- an event that comes next stands, or is kept out
room_or_full : (head : Head) (xs : List Event) (p : Pending) → IsFree xs p.seat → ComesOf head xs p.seat p.op → TurnFinds head xs p
room_or_full head xs p free c = go (has_room head xs c.event) refl
  where
    go : (b : Bool) → has_room head xs c.event ≡ b → TurnFinds head xs p
    go true e = inl (c.event, (c.comes, e), c.by, c.of)
    go false e = inr (inl (record { free = free; first = c.event; by = c.by; of = c.of; kept_out = (c.comes, e) }))

-- the seat has nothing in flight
idle_finds : (head : Head) (xs : List Event) (p : Pending) → IsAllowed head xs p → is_busy p.seat xs ≡ false → TurnFinds head xs p
idle_finds head xs p a idle = refused_or (refusal head xs p.seat p.op) refl
  where
    free : IsFree xs p.seat
    free = record { client = a.client; idle = idle }

    waits_or : (o : Option Wait) → wait_to_begin xs p.op ≡ o → refusal head xs p.seat p.op ≡ None → TurnFinds head xs p
    waits_or None e none = room_or_full head xs p free (first_comes head xs p.seat p.op free a.has_sub (λ h. rw e refl))
    waits_or (Some w) e none = inr (inr (inl (w, none, rw idle e)))

    refused_or : (o : Option ℕ) → refusal head xs p.seat p.op ≡ o → TurnFinds head xs p
    refused_or None e = waits_or (wait_to_begin xs p.op) refl e
    refused_or (Some errno) e =
        room_or_full head xs p free
        (record {
          event = Refused p.seat errno p.op;
          comes = record { free = free; has_sub = a.has_sub; refused = e };
          by = refl;
          of = refl;
        })

-- the seat walks
walker_finds : (head : Head) (xs : List Event) (p : Pending) (c : ℕ) (w : Walk) → Facts head xs → walk c xs ≡ Some w → w.seat ≡ p.seat →
    is_map_op p.op ≡ true → has_turn head xs p.seat c ≡ true → is_held_up head xs p.seat c ≡ true → TurnFinds head xs p
walker_finds head xs p c w f at s is turn held = go (walk_next head xs c w at (rw at at (f.kept.at c).kept))
  where
    entry : (n : EntryNext head xs c w) → n.entry.of.seat ≡ p.seat → (b : Bool) → is_made_by_ap n.state n.how ≡ b →
        TurnFinds head xs p
    entry n by true m =
        inr (inr (inr (
          c,
          record {
            state = n.state;
            inst = n.inst;
            dir = n.dir;
            how = n.how;
            entry = inl (n.entry, by);
            by_thread = m;
            held_up = held;
          },
        )))
    entry n by false m =
        inl (
          Call p.seat c n.state n.inst n.dir n.how,
          (inl (record { entry = n.entry; caller_is = rw (m, by) refl; turn = turn }), refl),
          refl,
          tt,
        )

    go : EndsNext head xs c w ⊎ EntryNext head xs c w → TurnFinds head xs p
    go (inl e) = inl (WalkEnd w.seat c e.answer, (ends_with head xs c w at e (rw s turn), refl), s, is)
    go (inr n) = entry n (n.client_is ∙ s) (is_made_by_ap n.state n.how) refl

-- the seat holds the map lock, and no walk is in flight
rest_finds : (head : Head) (xs : List Event) (p : Pending) (o : Operation) → operation xs ≡ Some o → o.seat ≡ p.seat → o.op ≡ p.op →
    is_map_op p.op ≡ true → is_busy p.seat xs ≡ true → is_walking xs ≡ false → TurnFinds head xs p
rest_finds head xs p o at s same is busy still = go (next head xs o.before o.op) refl
  where
    self : eqb o.seat p.seat ≡ true
    self = eq-eqb o.seat p.seat s

    begins : (c to : ℕ) → WalkBegins head xs p.seat c (settled c xs) to → (b : Bool) →
        has_room head xs (WalkBegin p.seat c (settled c xs) to) ≡ b → TurnFinds head xs p
    begins c to w true e = inl (WalkBegin p.seat c (settled c xs) to, (w, e), refl, is)
    begins c to w false e =
        inl (
          OpEnd p.seat LogFull,
          (inr (record { cpu = c; from = settled c xs; to = to; begins = w; no_room = e; answer_is = refl }), refl),
          refl,
          is,
        )

    waits_or : (c to : ℕ) → next head xs o.before o.op ≡ walks c to → (v : Option Wait) → wait_to_walk xs ≡ v → TurnFinds head xs p
    waits_or c to e None n =
        begins c to
        (record { of = o; held = at; seat_is = s; between = between_rest o.op xs still; gives = e; from_is = refl; no_wait = n })
        (has_room head xs (WalkBegin p.seat c (settled c xs) to)) refl
    waits_or c to e (Some why) n =
        let between = between_rest o.op xs still in
        inr (inr (inl (why, rw busy refl, rw (busy, at, self, between, e) n)))

    go : (n : Next) → next head xs o.before o.op ≡ n → TurnFinds head xs p
    go (walks c to) e = waits_or c to e (wait_to_walk xs) refl
    go (ends answer) e =
        inl (
          OpEnd p.seat answer,
          (inl (record { of = o; held = at; seat_is = s; no_walk = still; gives = e }), refl),
          refl,
          is,
        )
    go nothing e = absurd (next_some head xs o.before o.op (rw same is) still e)

-- the seat brings several processors up, and walks
batch_finds : (head : Head) (xs : List Event) (p : Pending) (o : Operation) (c : ℕ) (w : Walk) → Facts head xs →
    operation xs ≡ Some o → o.seat ≡ p.seat → is_map_op p.op ≡ true → is_upmany o.op ≡ true → walk c xs ≡ Some w → TurnFinds head xs p
batch_finds head xs p o c w f held s is u at = go (batch_next head xs o c w f.owners f.kept held u at)
  where
    by : (v : Walk) (e : Event) → Stands head xs e → seat_of e ≡ o.seat →
        ((seat_of e ≡ v.seat) × ((op : Op) → is_map_op op ≡ true → BelongsTo op e)) ⊎ IsOfThread xs e → TurnFinds head xs p
    by v e h t (inl b) = inl (e, h, t ∙ s, b.1 p.op is)
    by v e h t (inr b) = inl (e, h, t ∙ s, call_belongs p.op e b.2)

    kept : WalkKept head c w xs
    kept = rw at at (f.kept.at c).kept

    below : ltb c head.possible ≡ true
    below = (and_parts (ltb c head.possible) (not (among c head.absent)) kept.present).0

    thread : (l : Lowest head xs) (n : ThreadNext head xs l.cpu l.of) → to_begin head xs ≡ [] → turn_of head xs o.seat ≡ None →
        TurnFinds head xs p
    thread l n left turn =
        let q = f.owners.walk_op l.cpu l.of l.in_flight in
        let one : q.0 ≡ o = same_some q.0 o (sym q.1 ∙ held) in
        let seat : n.next.entry.of.seat ≡ p.seat = n.next.client_is ∙ (sym q.2 ∙ (ap (λ z. z.seat) one ∙ s)) in
        inr (inr (inr (
          l.cpu,
          record {
            state = n.next.state;
            inst = n.next.inst;
            dir = n.next.dir;
            how = n.next.how;
            entry = inl (n.next.entry, seat);
            by_thread = n.by_thread;
            held_up = held_up_is head xs p.seat l.cpu left (rw s at turn) l.is;
          },
        )))

    go : BatchNext head xs o → TurnFinds head xs p
    go (begins d b r) = inl (WalkBegin o.seat d (settled d xs) 200, (b, r), s, is)
    go (makes v e t g) = let n = g.takes_none in by v e (g.comes, rw n refl) t g.by
    go (threads left turn all) =
        let l = lowest_is head xs c w at below in thread l (all l.cpu l.of l.in_flight) left turn

holder_finds : (head : Head) (xs : List Event) (p : Pending) (o : Operation) → Facts head xs → IsAllowed head xs p →
    is_busy p.seat xs ≡ true → operation xs ≡ Some o → o.seat ≡ p.seat → TurnFinds head xs p
holder_finds head xs p o f a busy at s = go (walking xs) refl
  where
    same : o.op ≡ p.op
    same = a.same o.op (inl (o, at, s, refl))

    is : is_map_op p.op ≡ true
    is = rw same at (entered_op head xs o f.operations at)

    single_or : (c : ℕ) (w : Walk) → walk c xs ≡ Some w → w.seat ≡ p.seat → (b : Bool) → is_upmany o.op ≡ b → TurnFinds head xs p
    single_or c w g t true u = batch_finds head xs p o c w f at s is u g
    single_or c w g t false u =
        walker_finds head xs p c w f g t is (single_turn head xs o p.seat c at u)
        (single_held_up head xs p.seat c (single_brings xs o p.seat at u))

    go : (cs : List ℕ) → walking xs ≡ cs → TurnFinds head xs p
    go [] e = rest_finds head xs p o at s same is busy (rw e refl)
    go (c ∷ cs) e =
        let w = some_of (walk c xs) (sym (walking_is c xs) ∙ (ap (λ z. among c z) e ∙ first_among c cs)) in
        let q = f.owners.walk_op c w.0 w.1 in
        let one : q.0 ≡ o = same_some q.0 o (sym q.1 ∙ at) in
        single_or c w.0 w.1 (sym q.2 ∙ (ap (λ z. z.seat) one ∙ s)) (is_upmany o.op) refl

-- the seat registers
registrar_finds : (head : Head) (xs : List Event) (p : Pending) (r : Registration) → Facts head xs → IsAllowed head xs p →
    registration xs ≡ Some r → r.seat ≡ p.seat → TurnFinds head xs p
registrar_finds head xs p r f a at s = go (reg.registration_next head xs r at kept)
  where
    kept : RegistrationKept head r xs
    kept = rw at at f.kept.registration_kept

    same : r.op ≡ p.op
    same = a.same r.op (inr (r, at, s, refl))

    is : is_registration_op p.op ≡ true
    is = rw same at (registers_op r.op _ kept.can_begin)

    brings : (v : Option Operation) → operation xs ≡ v → brings_up p.seat v ≡ false
    brings None e = refl
    brings (Some o) e = own (eqb o.seat p.seat) refl
      where
        own : (b : Bool) → eqb o.seat p.seat ≡ b → (b && is_upmany o.op) ≡ false
        own true t = absurd (f.owners.apart o r e at (eqb-true o.seat p.seat t ∙ sym s))
        own false t = refl

    entry : (n : reg.EntryNext head xs r) → n.entry.of.seat ≡ p.seat → (b : Bool) → is_made_by_ap n.state n.how ≡ b →
        TurnFinds head xs p
    entry n by true m =
        inr (inr (inr (
          n.cpu,
          record {
            state = n.state;
            inst = n.inst;
            dir = n.dir;
            how = n.how;
            entry = inr (n.entry, by);
            by_thread = m;
            held_up = single_held_up head xs p.seat n.cpu (brings (operation xs) refl);
          },
        )))
    entry n by false m =
        inl (
          Call p.seat n.cpu n.state n.inst n.dir n.how,
          (inr (record { entry = n.entry; caller_is = rw (m, by) refl }), refl),
          refl,
          tt,
        )

    go : reg.EndsNext head xs r ⊎ reg.EntryNext head xs r → TurnFinds head xs p
    go (inl e) = inl (RegEnd r.seat e.answer, (e.ends, refl), s, is)
    go (inr n) = entry n (n.client_is ∙ s) (is_made_by_ap n.state n.how) refl

pub turn_finds : (head : Head) (xs : List Event) (p : Pending) → IsLawful head xs → IsAllowed head xs p → TurnFinds head xs p
turn_finds head xs p lawful a = busy_or (is_busy p.seat xs) refl
  where
    f : Facts head xs
    f = facts head xs lawful

    registrar_or : (r : Option Registration) → registration xs ≡ r → registers p.seat r ≡ true → TurnFinds head xs p
    registrar_or None e h = absurd (false≢true h)
    registrar_or (Some r) e h = registrar_finds head xs p r f a e (eqb-true r.seat p.seat h)

    holder_or : (o : Option Operation) → operation xs ≡ o → is_busy p.seat xs ≡ true → (b : Bool) → holds_map p.seat o ≡ b →
        (b || registers p.seat (registration xs)) ≡ true → TurnFinds head xs p
    holder_or (Some o) e busy true h g = holder_finds head xs p o f a busy e (eqb-true o.seat p.seat h)
    holder_or None e busy true h g = absurd (false≢true h)
    holder_or o e busy false h g = registrar_or (registration xs) refl g

    busy_or : (b : Bool) → is_busy p.seat xs ≡ b → TurnFinds head xs p
    busy_or false e = idle_finds head xs p a e
    busy_or true e = holder_or (operation xs) refl e (holds_map p.seat (operation xs)) refl e

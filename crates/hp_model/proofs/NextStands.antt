-- What comes next of a seat and its operation, as a function gives it, stands and is of that operation.
use Rattle.std.proofs.Common.{◌≡◌, ℕ, Bool, true, false, ◌&&◌, cond, eqb, is_some, Option, Some, None, List, refl, sym, ◌∙◌, subst, inl, inr, ◌⊎◌}
use Rattle.std.specs.Prelude.{find}
use Rattle.std.proofs.lemmas.Bool.{false≢true, eqb-true, and_parts}
use Rattle.hp_states.proofs.Basics.{none_some, same_some}
use Rattle.hp_event.specs.declared.op.Op.{Op}
use Rattle.hp_event.specs.declared.event.Role.{Role}
use Rattle.hp_event.specs.declared.event.Role.TheVariants.{Client, Ap}
use Rattle.hp_event.specs.declared.head.Head.{Head}
use Rattle.hp_event.specs.declared.event.Event.{Event}
use Rattle.hp_event.specs.declared.event.Event.TheVariants.{WalkBegin}
use Rattle.hp_model.specs.Events.{seat_of, is_registration_op, BelongsTo}
use Rattle.hp_model.specs.MapLock.{Operation, operation, is_map_op}
use Rattle.hp_model.specs.Subsystems.{names_sub}
use Rattle.hp_model.specs.Seats.{role_of, is_busy, IsFree}
use Rattle.hp_model.specs.Settled.{settled}
use Rattle.hp_model.specs.Sequence.{Next, walks, ends, nothing, next, is_between}
use Rattle.hp_model.specs.Waits.{Wait, wait_to_walk, is_waiting}
use Rattle.hp_model.specs.Refusals.{refusal}
use Rattle.hp_model.specs.Room.{has_room}
use Rattle.hp_model.specs.StandsOperations.{WalkBegins}
use Rattle.hp_model.specs.Lawful.{Comes, Stands, IsLawful}
use Rattle.hp_model.specs.Pending.{Pending, IsAllowed}
use Rattle.hp_model.specs.Moves.{IsOfThread}
use Rattle.hp_model.specs.UnderWay.{under_way}
use Rattle.hp_model.specs.FirstEvent.{is_client, begin_of, refused_or_begun, first_event}
use Rattle.hp_model.specs.NextEvent.{walk_begin, event_of_holder, next_of_holder, or_else, next_in_flight, if_room, next_event, walk_or_end}
use Rattle.hp_model.proofs.BatchLemmas.{ends_at_rest}
use Rattle.hp_model.proofs.FirstEvents.{begins}
use Rattle.hp_model.proofs.SomeMoves.{Facts, facts, entered_op, registers_op}
use Rattle.hp_model.proofs.Kept.{RegistrationKept}
use Rattle.hp_model.proofs.Members.{found}
use Rattle.hp_model.proofs.DueGives.{UnderWay, of_walk, of_registration, under_comes, stands_given, call_belongs}

-- an event under way belongs to the operation of its seat
under_belongs : (head : Head) (xs : List Event) (p : Pending) (e : Event) → Facts head xs → IsAllowed head xs p → seat_of e ≡ p.seat →
    UnderWay head xs e → BelongsTo p.op e
under_belongs head xs p e f a s (of_walk c w at g) = go g.by
  where
    go : ((seat_of e ≡ w.seat) × ((op : Op) → is_map_op op ≡ true → BelongsTo op e)) ⊎ IsOfThread xs e → BelongsTo p.op e
    go (inl h) =
        let q = f.owners.walk_op c w at in
        let same : q.0.op ≡ p.op = a.same q.0.op (inl (q.0, q.1, q.2 ∙ (sym h.0 ∙ s), refl)) in
        h.1 p.op (rw same at (entered_op head xs q.0 f.operations q.1))
    go (inr t) = call_belongs p.op e t.2
under_belongs head xs p e f a s (of_registration r at g) = go g.by
  where
    kept : RegistrationKept head r xs
    kept = rw at at f.kept.registration_kept

    go : ((seat_of e ≡ r.seat) × ((op : Op) → is_registration_op op ≡ true → BelongsTo op e)) ⊎ IsOfThread xs e → BelongsTo p.op e
    go (inl h) =
        let same : r.op ≡ p.op = a.same r.op (inr (r, at, sym h.0 ∙ s, refl)) in
        h.1 p.op (rw same at (registers_op r.op _ kept.can_begin))
    go (inr t) = call_belongs p.op e t.2

-- what the holder of the map lock does between walks
record HolderDoes (head : Head) (xs : List Event) (k : ℕ) (e : Event) : Type 0 where
  of : Operation
  held : operation xs ≡ Some of
  seat_is : of.seat ≡ k
  stands : Stands head xs e
  by : seat_of e ≡ k
  belongs : (op : Op) → is_map_op op ≡ true → BelongsTo op e

holder_does : (head : Head) (xs : List Event) (k : ℕ) (e : Event) → next_of_holder head xs k (operation xs) ≡ Some e →
    HolderDoes head xs k e
holder_does head xs k e h = go (operation xs) refl h
  where
    begins_or : (o : Operation) → operation xs ≡ Some o → o.seat ≡ k → (c to : ℕ) → WalkBegins head xs k c (settled c xs) to →
        (b : Bool) → has_room head xs (WalkBegin k c (settled c xs) to) ≡ b → walk_or_end b k c (settled c xs) to ≡ e →
        HolderDoes head xs k e
    begins_or o at s c to w true f g =
        subst (λ z. HolderDoes head xs k z) g
        (record { of = o; held = at; seat_is = s; stands = (w, f); by = refl; belongs = λ op m. m })
    begins_or o at s c to w false f g =
        subst (λ z. HolderDoes head xs k z) g
        (record {
          of = o;
          held = at;
          seat_is = s;
          stands = (inr (record { cpu = c; from = settled c xs; to = to; begins = w; no_room = f; answer_is = refl }), refl);
          by = refl;
          belongs = λ op m. m;
        })

    waits_or : (o : Operation) → operation xs ≡ Some o → o.seat ≡ k → is_between o.op xs ≡ true → (c to : ℕ) →
        next head xs o.before o.op ≡ walks c to → (v : Option Wait) → wait_to_walk xs ≡ v →
        cond (is_some v) None (Some (walk_begin head xs k c (settled c xs) to)) ≡ Some e → HolderDoes head xs k e
    waits_or o at s still c to n None f g =
        begins_or o at s c to
        (record { of = o; held = at; seat_is = s; between = still; gives = n; from_is = refl; no_wait = f })
        (has_room head xs (WalkBegin k c (settled c xs) to)) refl (same_some _ _ g)
    waits_or o at s still c to n (Some why) f g = absurd (none_some e g)

    after : (o : Operation) → operation xs ≡ Some o → o.seat ≡ k → is_between o.op xs ≡ true → (n : Next) →
        next head xs o.before o.op ≡ n → event_of_holder head xs k n ≡ Some e → HolderDoes head xs k e
    after o at s still (walks c to) f g = waits_or o at s still c to f (wait_to_walk xs) refl g
    after o at s still (ends answer) f g =
        subst (λ z. HolderDoes head xs k z) (same_some _ _ g)
        (record {
          of = o;
          held = at;
          seat_is = s;
          stands = (
            inl (record {
              of = o;
              held = at;
              seat_is = s;
              no_walk = ends_at_rest head xs o.before o.op answer still f;
              gives = f;
            }),
            refl,
          );
          by = refl;
          belongs = λ op m. m;
        })
    after o at s still nothing f g = absurd (none_some e g)

    held : (o : Operation) → operation xs ≡ Some o → (b : Bool) → (eqb o.seat k && is_between o.op xs) ≡ b →
        cond b (event_of_holder head xs k (next head xs o.before o.op)) None ≡ Some e → HolderDoes head xs k e
    held o at true f g =
        let p = and_parts (eqb o.seat k) (is_between o.op xs) f in
        after o at (eqb-true o.seat k p.0) p.1 (next head xs o.before o.op) refl g
    held o at false f g = absurd (none_some e g)

    go : (o : Option Operation) → operation xs ≡ o → next_of_holder head xs k o ≡ Some e → HolderDoes head xs k e
    go None f g = absurd (none_some e g)
    go (Some o) f g = held o f (eqb o.seat k && is_between o.op xs) refl g

-- what a seat does in flight: an event under way, or that of the holder
in_flight_is : (head : Head) (xs : List Event) (k : ℕ) (e : Event) → next_in_flight head xs k ≡ Some e →
    ((seat_of e ≡ k) × UnderWay head xs e) ⊎ HolderDoes head xs k e
in_flight_is head xs k e h = go (find (λ e. eqb (seat_of e) k) (under_way head xs)) refl h
  where
    go : (o : Option Event) → find (λ e. eqb (seat_of e) k) (under_way head xs) ≡ o →
        or_else o (next_of_holder head xs k (operation xs)) ≡ Some e →
        ((seat_of e ≡ k) × UnderWay head xs e) ⊎ HolderDoes head xs k e
    go None f g = inr (holder_does head xs k e g)
    go (Some x) f g =
        let s = same_some x e g in
        let r = found (λ e. eqb (seat_of e) k) (under_way head xs) e (rw s at f) in
        inl (eqb-true (seat_of e) k r.0, under_comes head xs e r.1)

-- what a free seat does
pub record FreeDoes (head : Head) (xs : List Event) (k : ℕ) (op : Op) (e : Event) : Type 0 where
  pub free : IsFree xs k
  pub comes : Comes head xs e
  pub by : seat_of e ≡ k
  pub belongs : BelongsTo op e

pub client_is : (o : Option Role) → is_client o ≡ true → o ≡ Some Client
client_is None h = absurd (false≢true h)
client_is (Some Client) h = refl
client_is (Some (Ap cpu)) h = absurd (false≢true h)

pub free_does : (head : Head) (xs : List Event) (k : ℕ) (op : Op) (e : Event) → is_busy k xs ≡ false →
    first_event head xs k op ≡ Some e → FreeDoes head xs k op e
free_does head xs k op e idle h = allowed_or (is_client (role_of k xs) && names_sub head op) refl h
  where
    waits_or : IsFree xs k → names_sub head op ≡ true → refusal head xs k op ≡ None → (b : Bool) → is_waiting xs op ≡ b →
        cond b None (begin_of head xs k op) ≡ Some e → FreeDoes head xs k op e
    waits_or f n r true w g = absurd (none_some e g)
    waits_or f n r false w g =
        let b = begins head xs k op f n (record { not_refused = r; not_waiting = w }) in
        let s = same_some b.event e (sym b.given ∙ g) in
        subst (λ z. FreeDoes head xs k op z) s (record { free = f; comes = b.comes; by = b.by; belongs = b.of })

    refused_or : IsFree xs k → names_sub head op ≡ true → (o : Option ℕ) → refusal head xs k op ≡ o →
        refused_or_begun head xs k op o ≡ Some e → FreeDoes head xs k op e
    refused_or f n None r g = waits_or f n r (is_waiting xs op) refl g
    refused_or f n (Some errno) r g =
        subst (λ z. FreeDoes head xs k op z) (same_some _ _ g)
        (record { free = f; comes = record { free = f; has_sub = n; refused = r }; by = refl; belongs = refl })

    allowed_or : (b : Bool) → (is_client (role_of k xs) && names_sub head op) ≡ b →
        cond b (refused_or_begun head xs k op (refusal head xs k op)) None ≡ Some e → FreeDoes head xs k op e
    allowed_or true f g =
        let p = and_parts (is_client (role_of k xs)) (names_sub head op) f in
        refused_or (record { client = client_is (role_of k xs) p.0; idle = idle }) p.1 (refusal head xs k op) refl g
    allowed_or false f g = absurd (none_some e g)

with_room : (head : Head) (xs : List Event) (o : Option Event) (e : Event) → if_room head xs o ≡ Some e →
    (o ≡ Some e) × (has_room head xs e ≡ true)
with_room head xs None e h = absurd (none_some e h)
with_room head xs (Some x) e h = go (has_room head xs x) refl h
  where
    go : (b : Bool) → has_room head xs x ≡ b → cond b (Some x) None ≡ Some e → (Some x ≡ Some e) × (has_room head xs e ≡ true)
    go true f g = let s = same_some x e g in (g, rw s at f)
    go false f g = absurd (none_some e g)

-- what comes next of a seat stands
pub next_stands : (head : Head) (xs : List Event) (k : ℕ) (op : Op) (e : Event) → next_event head xs k op ≡ Some e →
    Stands head xs e × (seat_of e ≡ k)
unfolding next_event
next_stands head xs k op e h = go (is_busy k xs) refl h
  where
    flies : ((seat_of e ≡ k) × UnderWay head xs e) ⊎ HolderDoes head xs k e → Stands head xs e × (seat_of e ≡ k)
    flies (inl u) = (stands_given head xs e u.1, u.0)
    flies (inr d) = (d.stands, d.by)

    go : (b : Bool) → is_busy k xs ≡ b →
        cond b (next_in_flight head xs k) (if_room head xs (first_event head xs k op)) ≡ Some e →
        Stands head xs e × (seat_of e ≡ k)
    go true f g = flies (in_flight_is head xs k e g)
    go false f g =
        let r = with_room head xs (first_event head xs k op) e g in
        let d = free_does head xs k op e f r.0 in
        ((d.comes, r.1), d.by)

-- and belongs to the operation that it may be asked for
pub next_belongs : (head : Head) (xs : List Event) (p : Pending) (e : Event) → IsLawful head xs → IsAllowed head xs p →
    next_event head xs p.seat p.op ≡ Some e → BelongsTo p.op e
unfolding next_event
next_belongs head xs p e lawful a h = go (is_busy p.seat xs) refl h
  where
    f : Facts head xs
    f = facts head xs lawful

    flies : ((seat_of e ≡ p.seat) × UnderWay head xs e) ⊎ HolderDoes head xs p.seat e → BelongsTo p.op e
    flies (inl u) = under_belongs head xs p e f a u.0 u.1
    flies (inr d) =
        let same : d.of.op ≡ p.op = a.same d.of.op (inl (d.of, d.held, d.seat_is, refl)) in
        d.belongs p.op (rw same at (entered_op head xs d.of f.operations d.held))

    go : (b : Bool) → is_busy p.seat xs ≡ b →
        cond b (next_in_flight head xs p.seat) (if_room head xs (first_event head xs p.seat p.op)) ≡ Some e → BelongsTo p.op e
    go true f g = flies (in_flight_is head xs p.seat e g)
    go false f g = (free_does head xs p.seat p.op e f (with_room head xs (first_event head xs p.seat p.op) e g).0).belongs

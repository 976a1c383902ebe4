-- What stands of a seat and its operation is what the function of what comes next gives.
use Rattle.std.proofs.Common.{◌≡◌, ℕ, Bool, true, false, not, ◌&&◌, cond, eqb, is_some, Option, Some, None, List, refl, ap, sym, ◌∙◌, subst, inl, inr, ◌⊎◌}
use Rattle.std.specs.Prelude.{find, ◌↔◌}
use Rattle.std.proofs.lemmas.Bool.{true≢false, false≢true, eq-eqb, and_parts}
use Rattle.hp_states.proofs.Basics.{not_true, none_some}
use Rattle.hp_event.specs.declared.op.Op.{Op}
use Rattle.hp_event.specs.declared.head.Head.{Head}
use Rattle.hp_event.specs.declared.event.Event.{Event}
use Rattle.hp_event.specs.declared.event.Event.TheVariants.{Refused, Call, WalkEnd}
use Rattle.hp_model.specs.Events.{seat_of, BelongsTo}
use Rattle.hp_model.specs.Walks.{Walk, walk}
use Rattle.hp_model.specs.MapLock.{operation}
use Rattle.hp_model.specs.Seats.{is_busy, IsFree}
use Rattle.hp_model.specs.BatchTurn.{has_turn}
use Rattle.hp_model.specs.Settled.{settled}
use Rattle.hp_model.specs.Sequence.{Next, walks, ends, nothing, next}
use Rattle.hp_model.specs.Waits.{Wait, wait_to_walk, wait_to_begin}
use Rattle.hp_model.specs.Refusals.{refusal}
use Rattle.hp_model.specs.Room.{has_room}
use Rattle.hp_model.specs.Lawful.{Comes, Stands, IsLawful}
use Rattle.hp_model.specs.Full.{IsFull}
use Rattle.hp_model.specs.Turns.{HasEvent, IsKeptWaiting, NeedsThread, TurnFinds, FindsOne}
use Rattle.hp_model.proofs.TurnFinds.{turn_finds}
use Rattle.hp_model.proofs.FindsOne.{finds_one}
use Rattle.hp_model.specs.Pending.{Pending, IsAllowed}
use Rattle.hp_model.specs.UnderWay.{under_way}
use Rattle.hp_model.specs.FirstEvent.{begin_of, refused_or_begun, first_event}
use Rattle.hp_model.specs.NextEvent.{walk_begin, event_of_holder, next_of_holder, or_else, next_in_flight, if_room, next_event, lacks_room, is_full}
use Rattle.hp_model.proofs.Owners.{Owners}
use Rattle.hp_model.proofs.OneNext.{one_next, owners}
use Rattle.hp_model.proofs.OneFate.{waits_still}
use Rattle.hp_model.proofs.Stages.{Between, WalkEvent, Stage, stage_of, event_next}
use Rattle.hp_model.proofs.FirstEvents.{begins}
use Rattle.hp_model.proofs.WalkGives as by_walk
use Rattle.hp_model.proofs.RegistrationGives as by_registration
use Rattle.hp_model.proofs.Members.{Has, not_found}
use Rattle.hp_model.proofs.OneFate.{first_only}
use Rattle.hp_model.proofs.DueGives.{walk_under, registration_under}
use Rattle.hp_model.proofs.NextStands.{free_does, next_stands, next_belongs}

-- first events of one free seat's operation are the same
first_same : (head : Head) (xs : List Event) (k : ℕ) (op : Op) (e f : Event) → Owners xs → IsFree xs k → Comes head xs e →
    Comes head xs f → seat_of e ≡ k → seat_of f ≡ k → BelongsTo op e → BelongsTo op f → e ≡ f
first_same head xs k op e f o free h w s t b c =
    let one = first_only head xs op e o (rw s free) b h in
    let other = first_only head xs op f o (rw t free) c w in
    one.event_is ∙ (rw (s, t) refl ∙ sym other.event_is)

-- a first event that can come is given
first_gives : (head : Head) (xs : List Event) (p : Pending) (e : Event) → IsLawful head xs → IsAllowed head xs p →
    IsFree xs p.seat → Comes head xs e → seat_of e ≡ p.seat → BelongsTo p.op e → first_event head xs p.seat p.op ≡ Some e
first_gives head xs p e lawful a free h s b =
    let c = a.client in
    let n = a.has_sub in
    rw (c, n) (refused_or (refusal head xs p.seat p.op) refl)
  where
    o : Owners xs
    o = owners head xs lawful

    waits_or : refusal head xs p.seat p.op ≡ None → (v : Option Wait) → wait_to_begin xs p.op ≡ v →
        cond (is_some v) None (begin_of head xs p.seat p.op) ≡ Some e
    waits_or r None w =
        let g = begins head xs p.seat p.op free a.has_sub (record { not_refused = r; not_waiting = rw w refl }) in
        g.given ∙ ap Some (first_same head xs p.seat p.op g.event e o free g.comes h g.by s g.of b)
    waits_or r (Some why) w =
        let i = free.idle in
        absurd (waits_still head xs p.seat p.op why e lawful a.client r (rw i w) h s b)

    refused_or : (v : Option ℕ) → refusal head xs p.seat p.op ≡ v → refused_or_begun head xs p.seat p.op v ≡ Some e
    refused_or None r = waits_or r (wait_to_begin xs p.op) refl
    refused_or (Some errno) r =
        ap Some
        (first_same head xs p.seat p.op (Refused p.seat errno p.op) e o free (record { free = free; has_sub = a.has_sub; refused = r }) h
        refl s refl b)

-- an event of the walk or the registration of a busy seat is under way
walk_event_under : (head : Head) (xs : List Event) (k c : ℕ) (w : Walk) (e : Event) → walk c xs ≡ Some w → WalkEvent head xs k c e →
    Has (under_way head xs) e
walk_event_under head xs k c w e at h =
    walk_under head xs c w e at (turn e h) (by_walk.gives head xs k c e h)
  where
    turn : (e : Event) → WalkEvent head xs k c e → has_turn head xs (seat_of e) c ≡ true
    turn (Call seat cpu state inst dir how) h = rw h.0 h.2.turn
    turn (WalkEnd seat cpu answer) h = rw h.0 h.2.turn
    turn e h = elim h [ ]

-- what the holder of the map lock does is given
holder_gives : (head : Head) (xs : List Event) (p : Pending) (e : Event) → IsLawful head xs → IsAllowed head xs p →
    is_busy p.seat xs ≡ true → Stands head xs e → seat_of e ≡ p.seat → BelongsTo p.op e → Between head xs p.seat e →
    next_of_holder head xs p.seat (operation xs) ≡ Some e
holder_gives head xs p e lawful a busy h s b t =
    let at = t.held in
    let self = eq-eqb t.of.seat p.seat t.seat_is in
    let still = t.between in
    rw (at, self, still) (go (next head xs t.of.before t.of.op) refl)
  where
    waits_or : (c to : ℕ) → next head xs t.of.before t.of.op ≡ walks c to → (v : Option Wait) → wait_to_walk xs ≡ v →
        cond (is_some v) None (Some (walk_begin head xs p.seat c (settled c xs) to)) ≡ Some e
    waits_or c to n None w = ap Some (sym (t.event_is ∙ ap (λ z. event_next head xs p.seat z) n))
    waits_or c to n (Some why) w =
        let at = t.held in
        let self : eqb t.of.seat p.seat ≡ true = eq-eqb t.of.seat p.seat t.seat_is in
        let still = t.between in
        absurd (waits_still head xs p.seat p.op why e lawful a.client (rw busy refl) (rw (busy, at, self, still, n) w) h.0 s b)

    go : (n : Next) → next head xs t.of.before t.of.op ≡ n → event_of_holder head xs p.seat n ≡ Some e
    go (walks c to) n = waits_or c to n (wait_to_walk xs) refl
    go (ends answer) n = ap Some (sym (t.event_is ∙ ap (λ z. event_next head xs p.seat z) n))
    go nothing n = absurd (t.moves n)

or_else_none : (a b : Option Event) → or_else a b ≡ None → (a ≡ None) × (b ≡ None)
or_else_none None b h = (refl, h)
or_else_none (Some e) b h = absurd (none_some e (sym h))

-- so where nothing is given nothing stands
next_none : (head : Head) (xs : List Event) (p : Pending) (e : Event) → IsLawful head xs → IsAllowed head xs p → Stands head xs e →
    seat_of e ≡ p.seat → BelongsTo p.op e → next_event head xs p.seat p.op ≡ None → ⊥
unfolding next_event
next_none head xs p e lawful a h s b n = go (is_busy p.seat xs) refl n
  where
    staged : is_busy p.seat xs ≡ true → find (λ e. eqb (seat_of e) p.seat) (under_way head xs) ≡ None →
        next_of_holder head xs p.seat (operation xs) ≡ None → Stage head xs p.seat p.op e → ⊥
    staged busy f g (inl t) = true≢false (sym busy ∙ t.idle)
    staged busy f g (inr (inl t)) = none_some e (sym g ∙ holder_gives head xs p e lawful a busy h s b t)
    staged busy f g (inr (inr (inl t))) =
        not_found (λ e. eqb (seat_of e) p.seat) (under_way head xs) e f
        (walk_event_under head xs p.seat t.cpu t.of e t.in_flight t.event_is) (eq-eqb (seat_of e) p.seat s)
    staged busy f g (inr (inr (inr t))) =
        not_found (λ e. eqb (seat_of e) p.seat) (under_way head xs) e f (registration_under head xs e (by_registration.gives head xs p.seat e t.event_is))
        (eq-eqb (seat_of e) p.seat s)

    go : (busy : Bool) → is_busy p.seat xs ≡ busy →
        cond busy (next_in_flight head xs p.seat) (if_room head xs (first_event head xs p.seat p.op)) ≡ None → ⊥
    go true f g =
        let q = or_else_none (find (λ e. eqb (seat_of e) p.seat) (under_way head xs)) (next_of_holder head xs p.seat (operation xs)) g in
        staged f q.0 q.1 (subst (λ z. Stage head xs z p.op e) s (stage_of head xs p.op e b h))
    go false f g =
        let first = first_gives head xs p e lawful a (record { client = a.client; idle = f }) h.0 s b in
        let room : has_room head xs e ≡ true = h.1 in
        let some : if_room head xs (first_event head xs p.seat p.op) ≡ Some e = ap (λ z. if_room head xs z) first ∙ rw room refl in
        none_some e (sym g ∙ some)

pub next_gives : (head : Head) (xs : List Event) (p : Pending) (e : Event) → IsLawful head xs → IsAllowed head xs p → Stands head xs e →
    seat_of e ≡ p.seat → BelongsTo p.op e → next_event head xs p.seat p.op ≡ Some e
next_gives head xs p e lawful a h s b = go (next_event head xs p.seat p.op) refl
  where
    go : (o : Option Event) → next_event head xs p.seat p.op ≡ o → next_event head xs p.seat p.op ≡ Some e
    go None f = absurd (next_none head xs p e lawful a h s b f)
    go (Some g) f =
        let d = next_stands head xs p.seat p.op g f in
        f ∙ ap Some (one_next head xs p.op g e lawful d.0 h (d.1 ∙ sym s) (next_belongs head xs p g lawful a f) b)

pub next_exactly : (head : Head) (xs : List Event) (p : Pending) (e : Event) → IsLawful head xs → IsAllowed head xs p →
    (next_event head xs p.seat p.op ≡ Some e) ↔ (Stands head xs e × (seat_of e ≡ p.seat) × BelongsTo p.op e)
next_exactly head xs p e lawful a = (
  λ f. let d = next_stands head xs p.seat p.op e f in (d.0, d.1, next_belongs head xs p e lawful a f),
  λ h. next_gives head xs p e lawful a h.0 h.1 h.2,
)

-- an operation is answered LogFull without an event exactly where its first event has no room
pub full_only : (head : Head) (xs : List Event) (k : ℕ) (op : Op) → is_full head xs k op ≡ true → IsFull head xs k op
unfolding is_full
full_only head xs k op h =
    let p = and_parts (not (is_busy k xs)) (lacks_room head xs (first_event head xs k op)) h in
    go (first_event head xs k op) refl (not_true (is_busy k xs) p.0) p.1
  where
    go : (o : Option Event) → first_event head xs k op ≡ o → is_busy k xs ≡ false → lacks_room head xs o ≡ true → IsFull head xs k op
    go None f idle l = absurd (false≢true l)
    go (Some e) f idle l =
        let d = free_does head xs k op e idle f in
        record { free = d.free; first = e; by = d.by; of = d.belongs; kept_out = (d.comes, not_true (has_room head xs e) l) }

neither : (a b : Bool) → a ≡ false → b ≡ true → (not a && b) ≡ true
neither a b h k = rw (h, k) refl

full_gives : (head : Head) (xs : List Event) (p : Pending) → IsLawful head xs → IsAllowed head xs p → IsFull head xs p.seat p.op →
    is_full head xs p.seat p.op ≡ true
unfolding is_full
full_gives head xs p lawful a h =
    let idle = h.free.idle in
    let first = first_gives head xs p h.first lawful a h.free h.kept_out.0 h.by h.of in
    let room = h.kept_out.1 in
    let lacks : lacks_room head xs (first_event head xs p.seat p.op) ≡ true = ap (λ z. lacks_room head xs z) first ∙ rw room refl in
    neither (is_busy p.seat xs) (lacks_room head xs (first_event head xs p.seat p.op)) idle lacks

pub full_exactly : (head : Head) (xs : List Event) (p : Pending) → IsLawful head xs → IsAllowed head xs p →
    (is_full head xs p.seat p.op ≡ true) ↔ IsFull head xs p.seat p.op
full_exactly head xs p lawful a = (full_only head xs p.seat p.op, full_gives head xs p lawful a)

-- nothing comes next where the operation has no room, or waits, or a thread has to make the next entry
pub next_nothing : (head : Head) (xs : List Event) (p : Pending) → IsLawful head xs → IsAllowed head xs p →
    (next_event head xs p.seat p.op ≡ None) ↔ (IsFull head xs p.seat p.op ⊎ (IsKeptWaiting head xs p ⊎ NeedsThread head xs p))
next_nothing head xs p lawful a = (there (turn_finds head xs p lawful a), λ h. back (next_event head xs p.seat p.op) refl h)
  where
    there : TurnFinds head xs p → next_event head xs p.seat p.op ≡ None →
        IsFull head xs p.seat p.op ⊎ (IsKeptWaiting head xs p ⊎ NeedsThread head xs p)
    there (inl e) n = absurd (next_none head xs p e.0 lawful a e.1 e.2 e.3 n)
    there (inr h) n = h

    one : FindsOne head xs p
    one = finds_one head xs p lawful a

    not_both : HasEvent head xs p → IsFull head xs p.seat p.op ⊎ (IsKeptWaiting head xs p ⊎ NeedsThread head xs p) → ⊥
    not_both e (inl f) = one.event_full e f
    not_both e (inr (inl w)) = one.event_waits e w
    not_both e (inr (inr t)) = one.event_thread e t

    back : (o : Option Event) → next_event head xs p.seat p.op ≡ o →
        IsFull head xs p.seat p.op ⊎ (IsKeptWaiting head xs p ⊎ NeedsThread head xs p) → o ≡ None
    back None f h = refl
    back (Some e) f h =
        let d = next_stands head xs p.seat p.op e f in
        absurd (not_both (e, d.0, d.1, next_belongs head xs p e lawful a f) h)

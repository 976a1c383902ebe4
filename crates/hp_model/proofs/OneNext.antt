-- After a lawful journal at most one event of a given seat and operation can stand next.
use Rattle.std.proofs.Common.{◌≡◌, ℕ, Bool, true, false, Some, List, refl, ap, sym, ◌∙◌, inl, inr, ◌⊎◌}
use Rattle.hp_states.proofs.Basics.{same_some}
use Rattle.hp_event.specs.declared.op.Op.{Op}
use Rattle.hp_event.specs.declared.head.Head.{Head}
use Rattle.hp_event.specs.declared.event.Event.{Event}
use Rattle.hp_model.specs.Events.{seat_of, BelongsTo}
use Rattle.hp_event.specs.declared.event.Role.TheVariants.{Client, Ap}
use Rattle.hp_model.specs.Seats.{role_of, ap_seat}
use Rattle.hp_model.specs.MapLock.{Operation, operation}
use Rattle.hp_model.specs.Suspend.{held_by}
use Rattle.hp_model.specs.Batch.{is_upmany}
use Rattle.hp_model.specs.Lawful.{Stands, IsLawful}
use Rattle.hp_model.proofs.Kept.{Kept}
use Rattle.hp_model.proofs.Induction.{held, kept}
use Rattle.hp_model.proofs.WalkGives as by_walk
use Rattle.hp_model.proofs.RegistrationGives as by_registration
use Rattle.hp_model.proofs.Owners.{Owners}
use Rattle.hp_model.proofs.Stages.{Between, OnWalk, WalkEvent, RegistrationEvent, Stage, stage_of, before_between, before_walk, before_registration, between_registration, ap_no_client, walk_registration}
use Rattle.hp_model.proofs.TurnLemmas.{turn_is, event_turn, between_walk}

one_on_walk : (head : Head) (xs : List Event) (k c : ℕ) (e f : Event) → WalkEvent head xs k c e → WalkEvent head xs k c f → e ≡ f
one_on_walk head xs k c e f h w = same_some e f (sym (by_walk.gives head xs k c e h) ∙ by_walk.gives head xs k c f w)

one_on_registration : (head : Head) (xs : List Event) (k : ℕ) (e f : Event) → RegistrationEvent head xs k e →
    RegistrationEvent head xs k f → e ≡ f
one_on_registration head xs k e f h w =
    same_some e f (sym (by_registration.gives head xs k e h) ∙ by_registration.gives head xs k f w)

one_between : (head : Head) (xs : List Event) (k : ℕ) (e f : Event) → Between head xs k e → Between head xs k f → e ≡ f
one_between head xs k e f h w =
    let same : h.of ≡ w.of = same_some h.of w.of (sym h.held ∙ w.held) in
    h.event_is ∙ (rw same refl ∙ sym w.event_is)

-- of the walks in flight one seat has an event in one alone: a thread in its processor's, an upmany's seat in that whose turn it is
one_turn : (head : Head) (xs : List Event) (k : ℕ) (e f : Event) → Owners xs → (h : OnWalk head xs k e) → (w : OnWalk head xs k f) →
    w.cpu ≡ h.cpu
one_turn head xs k e f o h w = go (is_upmany p.op) refl
  where
    held : (a : Operation) × (operation xs ≡ Some a) × (a.seat ≡ h.of.seat)
    held = o.walk_op h.cpu h.of h.in_flight

    other : (a : Operation) × (operation xs ≡ Some a) × (a.seat ≡ w.of.seat)
    other = o.walk_op w.cpu w.of w.in_flight

    p : Operation
    p = held.0

    same_op : other.0 ≡ p
    same_op = same_some other.0 p (sym other.1 ∙ held.1)

    same_role : (c d : ℕ) → Some (Ap c) ≡ Some (Ap d) → c ≡ d
    same_role c d h = cc

    -- the seat of the upmany is a client's
    client : (s : p.seat ≡ k) → role_of k xs ≡ Some Client
    client s = rw s at (o.op_client p held.1)

    both : is_upmany p.op ≡ true → (h.of.seat ≡ k) ⊎ (ap_seat h.cpu xs ≡ Some k) → (w.of.seat ≡ k) ⊎ (ap_seat w.cpu xs ≡ Some k) →
        w.cpu ≡ h.cpu
    both u (inl s) (inl t) =
        let by = held.2 ∙ s in
        same_some w.cpu h.cpu
        (sym (turn_is head xs p k w.cpu held.1 by u (event_turn head xs k w.cpu f w.event_is))
        ∙ turn_is head xs p k h.cpu held.1 by u (event_turn head xs k h.cpu e h.event_is))
    both u (inl s) (inr b) = absurd (ap_no_client xs w.cpu k o b (client (held.2 ∙ s)))
    both u (inr a) (inl t) = absurd (ap_no_client xs h.cpu k o a (client (sym (ap (λ z. z.seat) same_op) ∙ (other.2 ∙ t))))
    both u (inr a) (inr b) = same_role w.cpu h.cpu (sym (o.ap_role w.cpu k b) ∙ o.ap_role h.cpu k a)

    go : (u : Bool) → is_upmany p.op ≡ u → w.cpu ≡ h.cpu
    go true u = both u h.by w.by
    go false u = o.one_walk w.cpu h.cpu w.of h.of w.in_flight h.in_flight (ap (held_by is_upmany) held.1 ∙ u)

one_walking : (head : Head) (xs : List Event) (k : ℕ) (e f : Event) → Owners xs → OnWalk head xs k e → OnWalk head xs k f → e ≡ f
one_walking head xs k e f o h w =
    let same : w.cpu ≡ h.cpu = one_turn head xs k e f o h w in
    one_on_walk head xs k h.cpu e f h.event_is (rw same at w.event_is)

pub one_stage : (head : Head) (xs : List Event) (k : ℕ) (op : Op) (e f : Event) → Owners xs → Kept head xs →
    Stage head xs k op e → Stage head xs k op f → e ≡ f
one_stage head xs k op e f o kept (inl h) (inl w) = h.event_is ∙ sym w.event_is
one_stage head xs k op e f o kept (inl h) (inr (inl w)) = absurd (before_between head xs k op e f h w)
one_stage head xs k op e f o kept (inl h) (inr (inr (inl w))) = absurd (before_walk head xs k op e f o h w)
one_stage head xs k op e f o kept (inl h) (inr (inr (inr w))) = absurd (before_registration head xs k op e f o h w)
one_stage head xs k op e f o kept (inr (inl h)) (inl w) = absurd (before_between head xs k op f e w h)
one_stage head xs k op e f o kept (inr (inl h)) (inr (inl w)) = one_between head xs k e f h w
one_stage head xs k op e f o kept (inr (inl h)) (inr (inr (inl w))) = absurd (between_walk head xs k e f o h w)
one_stage head xs k op e f o kept (inr (inl h)) (inr (inr (inr w))) = absurd (between_registration head xs k e f o h w)
one_stage head xs k op e f o kept (inr (inr (inl h))) (inl w) = absurd (before_walk head xs k op f e o w h)
one_stage head xs k op e f o kept (inr (inr (inl h))) (inr (inl w)) = absurd (between_walk head xs k f e o w h)
one_stage head xs k op e f o kept (inr (inr (inl h))) (inr (inr (inl w))) = one_walking head xs k e f o h w
one_stage head xs k op e f o kept (inr (inr (inl h))) (inr (inr (inr w))) = absurd (walk_registration head xs k e f kept h w)
one_stage head xs k op e f o kept (inr (inr (inr h))) (inl w) = absurd (before_registration head xs k op f e o w h)
one_stage head xs k op e f o kept (inr (inr (inr h))) (inr (inl w)) = absurd (between_registration head xs k f e o w h)
one_stage head xs k op e f o kept (inr (inr (inr h))) (inr (inr (inl w))) = absurd (walk_registration head xs k f e kept w h)
one_stage head xs k op e f o kept (inr (inr (inr h))) (inr (inr (inr w))) = one_on_registration head xs k e f h.event_is w.event_is

pub owners : (head : Head) (xs : List Event) → IsLawful head xs → Owners xs
owners head xs h = (held head xs h).owners

pub one_next : (head : Head) (xs : List Event) (op : Op) (e f : Event) → IsLawful head xs → Stands head xs e → Stands head xs f →
    seat_of e ≡ seat_of f → BelongsTo op e → BelongsTo op f → e ≡ f
one_next head xs op e f lawful h k same b c =
    let s = rw (← same) at (stage_of head xs op f c k) in
    one_stage head xs (seat_of e) op e f (owners head xs lawful) (kept head xs lawful) (stage_of head xs op e b h) s

-- An event of a client's operation that stands is the one that comes next of its seat and that operation.
use Rattle.std.proofs.Common.{◌≡◌, ℕ, true, Some, List, [], ◌∷◌, inl, inr, refl, sym, ap, ◌∙◌, subst}
use Rattle.std.proofs.lemmas.Bool.{eq-eqb}
use Rattle.hp_machine.proofs.HolderRests.{next_same}
use Rattle.hp_states.proofs.Basics.{or_true, same_some, not_equal}
use Rattle.hp_event.specs.declared.answer.Answer.{Answer}
use Rattle.hp_event.specs.declared.event.File.{File}
use Rattle.hp_event.specs.declared.event.File.TheVariants.{State, Target, Fail, States}
use Rattle.hp_event.specs.declared.op.Op.{Op}
use Rattle.hp_event.specs.declared.op.Op.TheVariants as op
use Rattle.hp_event.specs.declared.event.Role.TheVariants.{Client}
use Rattle.hp_event.specs.declared.head.Head.{Head}
use Rattle.hp_event.specs.declared.event.Event.{Event}
use Rattle.hp_event.specs.declared.event.Event.TheVariants as event
use Rattle.hp_model.specs.Events.{seat_of, showing, BelongsTo}
use Rattle.hp_model.specs.FirstEvent.{is_client}
use Rattle.hp_model.specs.Lawful.{Stands, IsLawful}
use Rattle.hp_model.specs.MapLock.{Operation, operation, is_map_op}
use Rattle.hp_model.specs.NextEvent.{next_event}
use Rattle.hp_model.specs.Pending.{IsInFlight}
use Rattle.hp_model.specs.Registrations.{Registration, registration}
use Rattle.hp_model.specs.Seats.{role_of, is_busy, holds_map, IsFree}
use Rattle.hp_model.specs.StandsOperations.{OpEnds}
use Rattle.hp_model.specs.StandsRegistrations.{RegEnds}
use Rattle.hp_model.specs.Subsystems.{names_sub}
use Rattle.hp_model.specs.UnderWay.{under_way, next_of_registration}
use Rattle.hp_model.specs.Walks.{walking}
use Rattle.hp_model.proofs.InFlight.{none_walking}
use Rattle.hp_model.proofs.NextGives.{next_exactly}
use Rattle.hp_model.proofs.OneNext.{owners}
use Rattle.hp_model.proofs.Operations.{Operations, Entered}
use Rattle.hp_model.proofs.Owners.{idle_op, idle_reg}
use Rattle.hp_model.proofs.RegistrationGives as by_registration
use Rattle.hp_model.proofs.SomeMoves.{facts, entered_op}
use Rattle.hp_machine.proofs.BusyNext.{found}
use Rattle.hp_law.specs.Asked.{asked_by, IsOfOperation}

-- it comes next of a client's seat and the operation that it says, which speaks of subsystems of the head
pub record IsAskedFor (head : Head) (es : List Event) (e : Event) : Type 0 where
  pub client : is_client (role_of (seat_of e) es) ≡ true
  pub names : names_sub head (asked_by e) ≡ true
  pub next : next_event head es (seat_of e) (asked_by e) ≡ Some e

client_is : (k : ℕ) (es : List Event) → role_of k es ≡ Some Client → is_client (role_of k es) ≡ true
client_is k es client = rw client refl

-- of a seat with nothing in flight
first : (head : Head) (es : List Event) (k : ℕ) (asked : Op) (e : Event) → IsLawful head es → IsFree es k → names_sub head asked ≡ true →
    Stands head es e → seat_of e ≡ k → BelongsTo asked e → next_event head es k asked ≡ Some e
first head es k asked e lawful free names stands by of =
    (next_exactly head es (record { seat = k; op = asked }) e lawful
    (record { client = free.client; same = same; has_sub = names })).1 (stands, by, of)
  where
    same : (x : Op) → IsInFlight es (record { seat = k; op = x }) → x ≡ asked
    same x (inl f) = absurd (not_equal f.0.seat k (idle_op es k f.0 free.idle f.1) f.2)
    same x (inr f) = absurd (not_equal f.0.seat k (idle_reg es k f.0 free.idle f.1) f.2)

names_entered : (head : Head) (es : List Event) (o : Operation) → Operations head es → operation es ≡ Some o → names_sub head o.op ≡ true
names_entered head es o k held = let e : Entered head o = rw held at k.entered in e.enters.has_sub

-- of the seat that holds the map lock
holder_busy : (es : List Event) (k : ℕ) (o : Operation) → operation es ≡ Some o → o.seat ≡ k → is_busy k es ≡ true
holder_busy es k o held by = let own = eq-eqb o.seat k by in rw (held, own) refl

of_holder : (head : Head) (es : List Event) (k : ℕ) (o : Operation) (x : Op) (e : Event) → IsLawful head es → operation es ≡ Some o →
    o.seat ≡ k → Stands head es e → seat_of e ≡ k → (is_map_op o.op ≡ true → BelongsTo o.op e) →
    (role_of k es ≡ Some Client) × (next_event head es k x ≡ Some e)
of_holder head es k o x e lawful held by stands s of =
    (client, next_same head es k x o.op (holder_busy es k o held by) ∙ next)
  where
    takes : is_map_op o.op ≡ true
    takes = entered_op head es o (facts head es lawful).operations held

    client : role_of k es ≡ Some Client
    client = subst (λ n. role_of n es ≡ Some Client) by ((owners head es lawful).op_client o held)

    same : (y : Op) → IsInFlight es (record { seat = k; op = y }) → y ≡ o.op
    same y (inl f) = sym f.3 ∙ ap (λ (z : Operation). z.op) (same_some f.0 o (sym f.1 ∙ held))
    same y (inr f) = absurd ((owners head es lawful).apart o f.0 held f.1 (by ∙ sym f.2))

    next : next_event head es k o.op ≡ Some e
    next =
        (next_exactly head es (record { seat = k; op = o.op }) e lawful
        (record { client = client; same = same; has_sub = names_entered head es o (facts head es lawful).operations held })).1 (stands, s, of takes)

-- of the seat whose registration ends
registering_alone : (head : Head) (es : List Event) (e : Event) → walking es ≡ [] →
    next_of_registration head es (registration es) ≡ Some e → under_way head es ≡ e ∷ []
unfolding under_way
registering_alone head es e still next = rw (still, next) refl

registering_busy : (es : List Event) (k : ℕ) (r : Registration) → registration es ≡ Some r → r.seat ≡ k → is_busy k es ≡ true
registering_busy es k r flies by = let own = eq-eqb r.seat k by in rw (flies, own) (or_true (holds_map k (operation es)))

of_registration : (head : Head) (es : List Event) (k : ℕ) (answer : Answer) (x : Op) → IsLawful head es → RegEnds head es k answer →
    (role_of k es ≡ Some Client) × (next_event head es k x ≡ Some (event.RegEnd k answer))
of_registration head es k answer x lawful h =
    let r = h.of in
    let kept = (facts head es lawful).kept.registration_kept in
    let still = none_walking es (rw h.in_flight at kept).no_walk in
    let next = by_registration.gives_end head es k answer h in (
      subst (λ n. role_of n es ≡ Some Client) h.seat_is ((owners head es lawful).reg_client r h.in_flight),
      found head es k x (event.RegEnd k answer) (registering_busy es k r h.in_flight h.seat_is)
          (registering_alone head es (event.RegEnd k answer) still next) (eq-eqb k k refl),
    )

names_showing : (head : Head) (file : File) (c : ℕ) → names_sub head (showing file c) ≡ true
names_showing head State c = refl
names_showing head Target c = refl
names_showing head Fail c = refl
names_showing head States c = refl

by_first : (head : Head) (es : List Event) (e : Event) → IsLawful head es → IsFree es (seat_of e) → names_sub head (asked_by e) ≡ true →
    Stands head es e → BelongsTo (asked_by e) e → IsAskedFor head es e
by_first head es e lawful free names stands of = record {
  client = client_is (seat_of e) es free.client;
  names = names;
  next = first head es (seat_of e) (asked_by e) e lawful free names stands refl of;
}

pub asked_for : (head : Head) (es : List Event) (e : Event) → IsLawful head es → IsOfOperation e → Stands head es e → IsAskedFor head es e
asked_for head es (event.Admit seat role) lawful of stands = elim of [ ]
asked_for head es (event.Leave seat) lawful of stands = elim of [ ]
asked_for head es (event.Call seat cpu state inst dir how) lawful of stands = elim of [ ]
asked_for head es (event.Enter seat asked) lawful of stands =
    by_first head es (event.Enter seat asked) lawful stands.0.free stands.0.has_sub stands refl
asked_for head es (event.Refused seat errno asked) lawful of stands =
    by_first head es (event.Refused seat errno asked) lawful stands.0.free stands.0.has_sub stands refl
asked_for head es (event.RegBegin seat state asked) lawful of stands =
    by_first head es (event.RegBegin seat state asked) lawful stands.0.free stands.0.has_sub stands refl
asked_for head es (event.ReadLock seat) lawful of stands =
    by_first head es (event.ReadLock seat) lawful stands.0.free refl stands refl
asked_for head es (event.ReadUnlock seat) lawful of stands =
    by_first head es (event.ReadUnlock seat) lawful stands.0.free refl stands refl
asked_for head es (event.Armed seat cpu value) lawful of stands =
    by_first head es (event.Armed seat cpu value) lawful stands.0.free refl stands refl
asked_for head es (event.Shown seat file cpu value) lawful of stands =
    by_first head es (event.Shown seat file cpu value) lawful stands.0.free (names_showing head file cpu) stands refl
asked_for head es (event.Wakeup seat) lawful of stands =
    by_first head es (event.Wakeup seat) lawful stands.0.free refl stands refl
asked_for head es (event.WalkBegin seat cpu from to) lawful of stands =
    let b = stands.0 in
    let h =
    of_holder head es seat b.of op.Lock (event.WalkBegin seat cpu from to) lawful b.held b.seat_is stands refl (λ takes. takes) in
    record { client = client_is seat es h.0; names = refl; next = h.1 }
asked_for head es (event.WalkEnd seat cpu answer) lawful of stands =
    let b = stands.0 in
    let o = (owners head es lawful).walk_op cpu b.of b.in_flight in
    let h =
    of_holder head es seat o.0 op.Lock (event.WalkEnd seat cpu answer) lawful o.1 (o.2 ∙ b.seat_is) stands refl (λ takes. takes) in
    record { client = client_is seat es h.0; names = refl; next = h.1 }
asked_for head es (event.OpEnd seat answer) lawful of stands = go stands.0
  where
    with : (o : Operation) → operation es ≡ Some o → o.seat ≡ seat → IsAskedFor head es (event.OpEnd seat answer)
    with o held by =
        let h = of_holder head es seat o op.Lock (event.OpEnd seat answer) lawful held by stands refl (λ takes. takes) in
        record { client = client_is seat es h.0; names = refl; next = h.1 }

    go : OpEnds head es seat answer → IsAskedFor head es (event.OpEnd seat answer)
    go (inl b) = with b.of b.held b.seat_is
    go (inr b) = with b.begins.of b.begins.held b.begins.seat_is
asked_for head es (event.RegEnd seat answer) lawful of stands =
    let h = of_registration head es seat answer op.Lock lawful stands.0 in
    record { client = client_is seat es h.0; names = refl; next = h.1 }

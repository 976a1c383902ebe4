-- What is in flight after one event more, and what an answer leaves: its seat has nothing in flight.
use Rattle.std.proofs.Common.{◌≡◌, ℕ, true, false, Some, List, [], ◌∷◌, ◌++◌, refl, ap, sym, ◌∙◌, inl, inr, ◌⊎◌}
use Rattle.std.proofs.lemmas.Bool.{true≢false, false≢true}
use Rattle.hp_states.proofs.Basics.{none_some, same_some}
use Rattle.hp_event.specs.declared.op.Op.{Op}
use Rattle.hp_event.specs.declared.head.Head.{Head}
use Rattle.hp_event.specs.declared.event.Event.{Event}
use Rattle.hp_event.specs.declared.event.Event.TheVariants.{Admit, Leave, Enter, WalkBegin, Call, WalkEnd, OpEnd, RegBegin, RegEnd}
use Rattle.hp_model.specs.Events.{seat_of, is_answer}
use Rattle.hp_model.specs.MapLock.{Operation, operation, operation_step}
use Rattle.hp_model.specs.Registrations.{Registration, registration, registration_step}
use Rattle.hp_model.specs.Seats.{IsFree}
use Rattle.hp_model.specs.StandsOperations.{IsOver, IsCut}
use Rattle.hp_model.specs.Lawful.{Comes}
use Rattle.hp_model.specs.Pending.{Pending, IsInFlight}
use Rattle.hp_model.proofs.Laws.{operation_push, registration_push}
use Rattle.hp_model.proofs.Owners.{Owners}
use Rattle.hp_model.proofs.OneFate.{not_holder, not_registrar}

-- an event that begins an operation of the seat
pub data Begins (p : Pending) (e : Event) : Type 0 where
  enters : e ≡ Enter p.seat p.op → Begins p e
  registers : (state : ℕ) → e ≡ RegBegin p.seat state p.op → Begins p e

-- what was in flight before, and isn't answered
pub record Goes (xs : List Event) (p : Pending) (e : Event) : Type 0 where
  pub before : IsInFlight xs p
  pub unanswered : is_answer e ≡ true → seat_of e ≡ p.seat → ⊥

not_free : (xs : List Event) (p : Pending) → IsInFlight xs p → IsFree xs p.seat → ⊥
not_free xs p (inl o) f = not_holder xs p.seat o.0 f o.1 o.2
not_free xs p (inr r) f = not_registrar xs p.seat r.0 f r.1 r.2

pub free_not : (xs : List Event) (p : Pending) (k : ℕ) → IsInFlight xs p → IsFree xs k → k ≡ p.seat → ⊥
free_not xs p k h f e = not_free xs p h (rw (← e) f)

-- nothing else is in flight than was
same_flight : (xs : List Event) (p : Pending) (e : Event) → operation_step (operation xs) xs e ≡ operation xs →
    registration_step (registration xs) xs e ≡ registration xs → IsInFlight (xs ++ e ∷ []) p → IsInFlight xs p
same_flight xs p e a b (inl o) = inl (o.0, sym (operation_push xs e ∙ a) ∙ o.1, o.2, o.3)
same_flight xs p e a b (inr r) = inr (r.0, sym (registration_push xs e ∙ b) ∙ r.1, r.2, r.3)

by_free : (xs : List Event) (p : Pending) (e : Event) → operation_step (operation xs) xs e ≡ operation xs →
    registration_step (registration xs) xs e ≡ registration xs → IsFree xs (seat_of e) → IsInFlight (xs ++ e ∷ []) p →
    Begins p e ⊎ Goes xs p e
by_free xs p e a b f h =
    let g = same_flight xs p e a b h in
    inr (record { before = g; unanswered = λ yes s. free_not xs p (seat_of e) g f s })

by_none : (xs : List Event) (p : Pending) (e : Event) → operation_step (operation xs) xs e ≡ operation xs →
    registration_step (registration xs) xs e ≡ registration xs → is_answer e ≡ false → IsInFlight (xs ++ e ∷ []) p →
    Begins p e ⊎ Goes xs p e
by_none xs p e a b n h =
    inr (record { before = same_flight xs p e a b h; unanswered = λ yes s. true≢false (sym yes ∙ n) })

entered_as : (k j : ℕ) (op asked : Op) → k ≡ j → op ≡ asked → Enter k op ≡ Enter j asked
entered_as k j op asked a b = rw (a, b) refl

began_as : (k j s : ℕ) (op asked : Op) → k ≡ j → op ≡ asked → RegBegin k s op ≡ RegBegin j s asked
began_as k j s op asked a b = rw (a, b) refl

pub flight_step : (head : Head) (xs : List Event) (p : Pending) (e : Event) → Owners xs → Comes head xs e →
    IsInFlight (xs ++ e ∷ []) p → Begins p e ⊎ Goes xs p e
flight_step head xs p (Enter seat op) o h (inl q) =
    let n : Operation = record { seat = seat; op = op; before = xs } in
    let s : n ≡ q.0 = same_some n q.0 (sym (operation_push xs (Enter seat op)) ∙ q.1) in
    inl (enters (entered_as seat p.seat op p.op (ap (λ z. z.seat) s ∙ q.2) (ap (λ z. z.op) s ∙ q.3)))
flight_step head xs p (Enter seat op) o h (inr r) =
    inr (record {
      before = inr (r.0, sym (registration_push xs (Enter seat op)) ∙ r.1, r.2, r.3);
      unanswered = λ yes s. false≢true yes;
    })
flight_step head xs p (RegBegin seat state op) o h (inl q) =
    inr (record {
      before = inl (q.0, sym (operation_push xs (RegBegin seat state op)) ∙ q.1, q.2, q.3);
      unanswered = λ yes s. false≢true yes;
    })
flight_step head xs p (RegBegin seat state op) o h (inr r) =
    let n : Registration = record { seat = seat; state = state; op = op; before = xs } in
    let s : n ≡ r.0 = same_some n r.0 (sym (registration_push xs (RegBegin seat state op)) ∙ r.1) in
    inl (registers state (began_as seat p.seat state op p.op (ap (λ z. z.seat) s ∙ r.2) (ap (λ z. z.op) s ∙ r.3)))
flight_step head xs p (OpEnd seat answer) o h (inl q) =
    absurd (none_some q.0 (sym (operation_push xs (OpEnd seat answer)) ∙ q.1))
flight_step head xs p (OpEnd seat answer) o h (inr r) =
    let at = sym (registration_push xs (OpEnd seat answer)) ∙ r.1 in
    inr (record { before = inr (r.0, at, r.2, r.3); unanswered = λ yes s. go at s h })
  where
    go : registration xs ≡ Some r.0 → seat ≡ p.seat → IsOver head xs seat answer ⊎ IsCut head xs seat answer → ⊥
    go at s (inl v) = o.apart v.of r.0 v.held at (v.seat_is ∙ (s ∙ sym r.2))
    go at s (inr c) = o.apart c.begins.of r.0 c.begins.held at (c.begins.seat_is ∙ (s ∙ sym r.2))
flight_step head xs p (RegEnd seat answer) o h (inr r) =
    absurd (none_some r.0 (sym (registration_push xs (RegEnd seat answer)) ∙ r.1))
flight_step head xs p (RegEnd seat answer) o h (inl q) =
    let at = sym (operation_push xs (RegEnd seat answer)) ∙ q.1 in
    inr (record {
      before = inl (q.0, at, q.2, q.3);
      unanswered = λ yes s. o.apart q.0 h.of at h.in_flight (q.2 ∙ (sym s ∙ sym h.seat_is));
    })
flight_step head xs p (Admit seat role) o h q = by_none xs p (Admit seat role) refl refl refl q
flight_step head xs p (Leave seat) o h q = by_none xs p (Leave seat) refl refl refl q
flight_step head xs p (WalkBegin seat cpu from to) o h q = by_none xs p (WalkBegin seat cpu from to) refl refl refl q
flight_step head xs p (Call seat cpu state inst dir how) o h q = by_none xs p (Call seat cpu state inst dir how) refl refl refl q
flight_step head xs p (WalkEnd seat cpu answer) o h q = by_none xs p (WalkEnd seat cpu answer) refl refl refl q
flight_step head xs p e o h q = by_free xs p e refl refl h.free q

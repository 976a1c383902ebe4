-- An answer leaves its seat with nothing in flight.
use Rattle.std.proofs.Common.{◌≡◌, ℕ, Bool, true, false, eqb, Option, Some, None, List, [], ◌∷◌, ◌++◌, ◌||◌, refl, ap, sym, ◌∙◌, inl, inr, ◌⊎◌}
use Rattle.std.proofs.lemmas.Bool.{false≢true, eqb-true}
use Rattle.hp_event.specs.declared.op.Op.{Op}
use Rattle.hp_event.specs.declared.head.Head.{Head}
use Rattle.hp_event.specs.declared.event.Event.{Event}
use Rattle.hp_model.specs.Events.{seat_of, is_answer}
use Rattle.hp_model.specs.MapLock.{Operation, operation}
use Rattle.hp_model.specs.Registrations.{Registration, registration}
use Rattle.hp_model.specs.Seats.{holds_map, registers, is_busy}
use Rattle.hp_model.specs.Lawful.{Comes, IsLawful}
use Rattle.hp_model.specs.Pending.{IsInFlight}
use Rattle.hp_model.proofs.FlightSteps.{Begins, enters, registers as begins_registration, Goes, flight_step}
use Rattle.hp_model.proofs.OneNext.{owners}

-- a seat with nothing in flight isn't busy
idle_unless : (xs : List Event) (k : ℕ) → ((op : Op) → IsInFlight xs (record { seat = k; op = op }) → ⊥) →
    is_busy k xs ≡ false
idle_unless xs k none = go (operation xs) (registration xs) refl refl
  where
    reg : (r : Option Registration) → registration xs ≡ r → registers k r ≡ false
    reg None f = refl
    reg (Some r) f = by (eqb r.seat k) refl
      where
        by : (b : Bool) → eqb r.seat k ≡ b → b ≡ false
        by true e = absurd (none r.op (inr (r, f, eqb-true r.seat k e, refl)))
        by false e = refl

    map : (o : Option Operation) → operation xs ≡ o → holds_map k o ≡ false
    map None f = refl
    map (Some o) f = by (eqb o.seat k) refl
      where
        by : (b : Bool) → eqb o.seat k ≡ b → b ≡ false
        by true e = absurd (none o.op (inl (o, f, eqb-true o.seat k e, refl)))
        by false e = refl

    go : (o : Option Operation) (r : Option Registration) → operation xs ≡ o → registration xs ≡ r →
        (holds_map k (operation xs) || registers k (registration xs)) ≡ false
    go o r f g = rw (ap (holds_map k) f ∙ map o f, ap (registers k) g ∙ reg r g) refl

-- an answer leaves its seat with nothing in flight
pub answer_frees : (head : Head) (xs : List Event) (e : Event) → IsLawful head xs → Comes head xs e → is_answer e ≡ true →
    is_busy (seat_of e) (xs ++ e ∷ []) ≡ false
answer_frees head xs e lawful h answers =
    idle_unless (xs ++ e ∷ []) (seat_of e)
    (λ op f. go op (flight_step head xs (record { seat = seat_of e; op = op }) e (owners head xs lawful) h f))
  where
    go : (op : Op) → Begins (record { seat = seat_of e; op = op }) e ⊎ Goes xs (record { seat = seat_of e; op = op }) e → ⊥
    go op (inl (enters q)) = false≢true (sym (ap is_answer q) ∙ answers)
    go op (inl (begins_registration state q)) = false≢true (sym (ap is_answer q) ∙ answers)
    go op (inr f) = f.unanswered answers refl

-- What comes next of an operation and doesn't answer it leaves its seat busy; what answers it leaves it with nothing in flight.
use Rattle.std.proofs.Common.{◌≡◌, ℕ, Bool, true, false, cond, eqb, ◌||◌, ◌&&◌, ◌⊎◌, inl, inr, Option, Some, None, List, [], ◌∷◌, ◌++◌, refl, sym, ap, ◌∙◌, subst, is_some}
use Rattle.std.proofs.lemmas.Bool.{false≢true, eq-eqb, eqb-true}
use Rattle.hp_states.proofs.Basics.{or_true, none_some, same_some}
use Rattle.hp_event.specs.declared.answer.Answer.{Answer}
use Rattle.hp_event.specs.declared.op.Op.{Op}
use Rattle.hp_event.specs.declared.op.Op.TheVariants as op
use Rattle.hp_event.specs.declared.head.Head.{Head}
use Rattle.hp_event.specs.declared.event.Event.{Event}
use Rattle.hp_event.specs.declared.event.Event.TheVariants.{Enter, RegBegin}
use Rattle.hp_model.specs.Events.{seat_of, answer_by, is_answer}
use Rattle.hp_model.specs.FirstEvent.{first_event, begin_of, is_client, refused_or_begun, reg_begin}
use Rattle.hp_model.specs.Lawful.{Comes, IsLawful}
use Rattle.hp_model.specs.MapLock.{Operation, operation}
use Rattle.hp_model.specs.NextEvent.{next_event, next_in_flight, if_room}
use Rattle.hp_model.specs.Pending.{IsInFlight}
use Rattle.hp_model.specs.Refusals.{refusal}
use Rattle.hp_model.specs.Registrations.{Registration, registration}
use Rattle.hp_model.specs.Resolved.{resolved}
use Rattle.hp_model.specs.Seats.{is_busy, holds_map, registers, role_of}
use Rattle.hp_model.specs.Subsystems.{names_sub}
use Rattle.hp_model.specs.Waits.{is_waiting}
use Rattle.hp_model.proofs.FlightSteps.{Begins, enters, registers as begins_registration, Goes, flight_step}
use Rattle.hp_model.proofs.NextStands.{next_stands}
use Rattle.hp_model.proofs.OneNext.{owners}
use Rattle.hp_board.proofs.Busy.{busy_push, stays_busy, unless, where_so, with_room}

entered : (k : ℕ) (xs : List Event) (asked : Op) (e : Event) → Some (Enter k asked) ≡ Some e → is_busy k (xs ++ e ∷ []) ≡ true
entered k xs asked e is =
    let own = eq-eqb k k refl in
    subst (λ x. is_busy k (xs ++ x ∷ []) ≡ true) (same_some (Enter k asked) e is)
    (busy_push k xs (Enter k asked) ∙ rw own refl)

registering : (k : ℕ) (xs : List Event) (asked : Op) (s : Option ℕ) (e : Event) → reg_begin k asked s ≡ Some e →
    is_busy k (xs ++ e ∷ []) ≡ true
registering k xs asked None e is = absurd (none_some e is)
registering k xs asked (Some s) e is =
    let own = eq-eqb k k refl in
    subst (λ x. is_busy k (xs ++ x ∷ []) ≡ true) (same_some (RegBegin k s asked) e is)
    (busy_push k xs (RegBegin k s asked) ∙ rw own (or_true (holds_map k (operation xs))))

answered : (x e : Event) → Some x ≡ Some e → answer_by e ≡ None → answer_by x ≡ None
answered x e is none = ap answer_by (same_some x e is) ∙ none

begun : (head : Head) (xs : List Event) (k : ℕ) (asked : Op) (e : Event) → begin_of head xs k asked ≡ Some e → answer_by e ≡ None →
    is_busy k (xs ++ e ∷ []) ≡ true
begun head xs k (op.Up c) e is none = entered k xs (op.Up c) e is
begun head xs k (op.Down c) e is none = entered k xs (op.Down c) e is
begun head xs k (op.Target c v) e is none = entered k xs (op.Target c v) e is
begun head xs k (op.Boot n) e is none = entered k xs (op.Boot n) e is
begun head xs k op.Disable e is none = entered k xs op.Disable e is
begun head xs k op.Enable e is none = entered k xs op.Enable e is
begun head xs k (op.Freeze p) e is none = entered k xs (op.Freeze p) e is
begun head xs k op.Thaw e is none = entered k xs op.Thaw e is
begun head xs k (op.UpMany set) e is none = entered k xs (op.UpMany set) e is
begun head xs k op.Wakeup e is none = absurd (none_some _ (sym (answered _ e is none)))
begun head xs k (op.Arm c v) e is none = absurd (none_some _ (sym (answered _ e is none)))
begun head xs k (op.ShowState c) e is none = absurd (none_some _ (sym (answered _ e is none)))
begun head xs k (op.ShowTarget c) e is none = absurd (none_some _ (sym (answered _ e is none)))
begun head xs k (op.ShowFail c) e is none = absurd (none_some _ (sym (answered _ e is none)))
begun head xs k op.ShowStates e is none = absurd (none_some _ (sym (answered _ e is none)))
begun head xs k op.Lock e is none = absurd (none_some _ (sym (answered _ e is none)))
begun head xs k op.Unlock e is none = absurd (none_some _ (sym (answered _ e is none)))
begun head xs k (op.Setup s sub form) e is none = registering k xs (op.Setup s sub form) (resolved head xs (op.Setup s sub form)) e is
begun head xs k (op.Remove s form) e is none = registering k xs (op.Remove s form) (resolved head xs (op.Remove s form)) e is
begun head xs k (op.Add s i form) e is none = registering k xs (op.Add s i form) (resolved head xs (op.Add s i form)) e is
begun head xs k (op.Del s i form) e is none = registering k xs (op.Del s i form) (resolved head xs (op.Del s i form)) e is

first : (head : Head) (xs : List Event) (k : ℕ) (asked : Op) (r : Option ℕ) (e : Event) →
    refused_or_begun head xs k asked r ≡ Some e → answer_by e ≡ None → is_busy k (xs ++ e ∷ []) ≡ true
first head xs k asked (Some errno) e is none = absurd (none_some _ (sym (answered _ e is none)))
first head xs k asked None e is none = begun head xs k asked e (unless (is_waiting xs asked) _ e is) none

by_busy : (head : Head) (xs : List Event) (k : ℕ) (asked : Op) (e : Event) → next_event head xs k asked ≡ Some e →
    answer_by e ≡ None → (b : Bool) → is_busy k xs ≡ b → is_busy k (xs ++ e ∷ []) ≡ true
unfolding next_event
by_busy head xs k asked e next none true busy =
    stays_busy xs e k (next_stands head xs k asked e next).1 none busy
by_busy head xs k asked e next none false idle =
    let step : if_room head xs (first_event head xs k asked) ≡ Some e =
    sym (ap (λ b. cond b (next_in_flight head xs k) (if_room head xs (first_event head xs k asked))) idle) ∙ next in
    first head xs k asked (refusal head xs k asked) e
    (where_so (is_client (role_of k xs) && names_sub head asked) _ e (with_room head xs (first_event head xs k asked) e step)) none

pub goes_on_busy : (head : Head) (xs : List Event) (k : ℕ) (asked : Op) (e : Event) → next_event head xs k asked ≡ Some e →
    answer_by e ≡ None → is_busy k (xs ++ e ∷ []) ≡ true
goes_on_busy head xs k asked e next none = by_busy head xs k asked e next none (is_busy k xs) refl

-- a seat with nothing in flight isn't busy
idle_unless : (xs : List Event) (k : ℕ) → ((op : Op) → IsInFlight xs (record { seat = k; op = op }) → ⊥) →
    is_busy k xs ≡ false
idle_unless xs k none = go (operation xs) (registration xs) refl refl
  where
    reg : (r : Option Registration) → registration xs ≡ r → registers k r ≡ false
    reg None f = refl
    reg (Some r) f = by (eqb r.seat k) refl
      where
        by : (b : Bool) → eqb r.seat k ≡ b → b ≡ false
        by true e = absurd (none r.op (inr (r, f, eqb-true r.seat k e, refl)))
        by false e = refl

    map : (o : Option Operation) → operation xs ≡ o → holds_map k o ≡ false
    map None f = refl
    map (Some o) f = by (eqb o.seat k) refl
      where
        by : (b : Bool) → eqb o.seat k ≡ b → b ≡ false
        by true e = absurd (none o.op (inl (o, f, eqb-true o.seat k e, refl)))
        by false e = refl

    go : (o : Option Operation) (r : Option Registration) → operation xs ≡ o → registration xs ≡ r →
        (holds_map k (operation xs) || registers k (registration xs)) ≡ false
    go o r f g = rw (ap (holds_map k) f ∙ map o f, ap (registers k) g ∙ reg r g) refl

-- an answer leaves its seat with nothing in flight
pub answer_frees : (head : Head) (xs : List Event) (e : Event) → IsLawful head xs → Comes head xs e → is_answer e ≡ true →
    is_busy (seat_of e) (xs ++ e ∷ []) ≡ false
answer_frees head xs e lawful h answers =
    idle_unless (xs ++ e ∷ []) (seat_of e)
    (λ op f. go op (flight_step head xs (record { seat = seat_of e; op = op }) e (owners head xs lawful) h f))
  where
    go : (op : Op) → Begins (record { seat = seat_of e; op = op }) e ⊎ Goes xs (record { seat = seat_of e; op = op }) e → ⊥
    go op (inl (enters q)) = false≢true (sym (ap is_answer q) ∙ answers)
    go op (inl (begins_registration state q)) = false≢true (sym (ap is_answer q) ∙ answers)
    go op (inr f) = f.unanswered answers refl

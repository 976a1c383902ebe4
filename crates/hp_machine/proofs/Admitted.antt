-- A seat can come in exactly where nothing refuses it.
use Rattle.std.proofs.Common.{◌≡◌, ℕ, ◌+◌, ◌<◌, Bool, true, false, not, cond, ltb, leb, is_some, Option, Some, None, List, length, refl, sym, subst, arith}
use Rattle.std.proofs.lemmas.Bool.Decides.{nat_tests}
use Rattle.hp_states.proofs.Basics.{none_of, not_false}
use Rattle.hp_states.specs.declared.limits.TheConstants.{MAX_SEATS, MAX_EVENTS}
use Rattle.hp_event.specs.declared.event.Role.{Role}
use Rattle.hp_event.specs.declared.event.Role.TheVariants.{Client, Ap}
use Rattle.hp_event.specs.declared.head.Head.{Head}
use Rattle.hp_event.specs.declared.event.Event.{Event}
use Rattle.hp_event.specs.declared.event.Event.TheVariants.{Admit}
use Rattle.hp_model.specs.Lawful.{Stands}
use Rattle.hp_model.specs.Processors.{is_present}
use Rattle.hp_model.specs.Promised.{promised}
use Rattle.hp_model.specs.Seats.{admits, ap_seat}
use Rattle.hp_model.specs.StandsSeats.{CanSit}
use Rattle.hp_machine.specs.declared.admission.AdmitError.{AdmitError}
use Rattle.hp_machine.specs.declared.admission.AdmitError.TheVariants.{Full, NotPresent, ApTaken, LogFull}
use Rattle.hp_machine.specs.Admission.{refused_for_room, refused_for_role, refusal_of}

some_none : (e : AdmitError) → Some e ≡ None → ⊥
some_none e h = cc

passes : (b : Bool) (e : AdmitError) (rest : Option AdmitError) → cond b (Some e) rest ≡ None → (b ≡ false) × (rest ≡ None)
passes true e rest h = absurd (some_none e h)
passes false e rest h = (refl, h)

has_room : (n : ℕ) → ltb MAX_EVENTS n ≡ false → leb n MAX_EVENTS ≡ true
has_room n h = grind (arith, nat_tests)

below : (n : ℕ) → leb MAX_SEATS n ≡ false → n < MAX_SEATS
below n h = grind (arith, nat_tests)

pub admission_stands : (head : Head) (es : List Event) (role : Role) → refusal_of head es role ≡ None → Stands head es (Admit (admits es) role)
admission_stands head es role h =
    let f = passes (leb MAX_SEATS (admits es)) Full (refused_for_role head es role) h in
    let r = by_role role f.1 in (
      record { seat_is = refl; below = below (admits es) f.0; can_sit = r.0 },
      has_room (length es + promised head es + 2) (passes (ltb MAX_EVENTS (length es + promised head es + 2)) LogFull None r.1).0,
    )
  where
    by_role : (role : Role) → refused_for_role head es role ≡ None → CanSit head es role × (refused_for_room head es ≡ None)
    by_role Client h = (tt, h)
    by_role (Ap cpu) h =
        let p =
        passes (not (is_present head cpu)) NotPresent (cond (is_some (ap_seat cpu es)) (Some ApTaken) (refused_for_room head es)) h in
        let t = passes (is_some (ap_seat cpu es)) ApTaken (refused_for_room head es) p.1 in
        ((not_false (is_present head cpu) p.0, none_of (ap_seat cpu es) t.0), t.1)

-- and one that can come in isn't refused
goes_on : (b : Bool) (e : AdmitError) (rest : Option AdmitError) → b ≡ false → rest ≡ None → cond b (Some e) rest ≡ None
goes_on b e rest fails none = rw (fails, none) refl

fits : (n : ℕ) → leb n MAX_EVENTS ≡ true → ltb MAX_EVENTS n ≡ false
fits n h = grind (arith, nat_tests)

few : (n : ℕ) → n < MAX_SEATS → leb MAX_SEATS n ≡ false
few n h = grind (arith, nat_tests)

pub stands_admitted : (head : Head) (es : List Event) (role : Role) → Stands head es (Admit (admits es) role) → refusal_of head es role ≡ None
stands_admitted head es role s =
    goes_on (leb MAX_SEATS (admits es)) Full (refused_for_role head es role) (few (admits es) s.0.below) (by_role role s.0.can_sit)
  where
    room : refused_for_room head es ≡ None
    room =
        goes_on (ltb MAX_EVENTS (length es + promised head es + 2)) LogFull None (fits (length es + promised head es + 2) s.1) refl

    by_role : (role : Role) → CanSit head es role → refused_for_role head es role ≡ None
    by_role Client sits = room
    by_role (Ap cpu) sits = rw (sits.0, sits.1) room

-- a seat comes in by its number alone
pub admits_number : (head : Head) (es : List Event) (seat : ℕ) (role : Role) → Stands head es (Admit seat role) →
    (seat ≡ admits es) × (refusal_of head es role ≡ None)
admits_number head es seat role s =
    let is : seat ≡ admits es = s.0.seat_is in
    (is, stands_admitted head es role (subst (λ k. Stands head es (Admit k role)) is s))

pub comes_in : (head : Head) (es : List Event) (seat : ℕ) (role : Role) → seat ≡ admits es → refusal_of head es role ≡ None →
    Stands head es (Admit seat role)
comes_in head es seat role is none = subst (λ k. Stands head es (Admit k role)) (sym is) (admission_stands head es role none)

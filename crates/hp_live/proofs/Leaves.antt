-- A seat can leave where its front says so.
use Rattle.std.proofs.Common.{◌≡◌, ℕ, Bool, true, false, cond, ◌⊎◌, ⊎_elim, inl, inr, eqb, Option, Some, None, List, refl, sym, ap, ◌∙◌, is_some}
use Rattle.std.proofs.lemmas.Bool.{eqb-true, eq-eqb, false≢true}
use Rattle.hp_event.specs.declared.event.Role.TheVariants.{Client, Ap}
use Rattle.hp_event.specs.declared.head.Head.{Head}
use Rattle.hp_event.specs.declared.how.How.{How}
use Rattle.hp_event.specs.declared.event.Event.{Event}
use Rattle.hp_event.specs.declared.event.Event.TheVariants.{Leave}
use Rattle.hp_states.specs.declared.dir.Dir.{Dir}
use Rattle.hp_model.specs.Caller.{is_made_by_ap}
use Rattle.hp_model.specs.Lawful.{IsLawful, Stands}
use Rattle.hp_model.specs.MapLock.{Operation, operation}
use Rattle.hp_model.specs.NextEvent.{due_entry}
use Rattle.hp_model.specs.Readers.{reading_since}
use Rattle.hp_model.specs.Registrations.{Registration, registration}
use Rattle.hp_model.specs.Seats.{ap_seat, holds_map, registers, is_busy, role_of}
use Rattle.hp_model.specs.StandsCalls.{InWalk, InRegistration, IsIdle}
use Rattle.hp_model.proofs.DueGives.{due_nothing}
use Rattle.hp_model.proofs.OneNext.{owners}
use Rattle.hp_states.proofs.Basics.{same_some}
use Rattle.hp_model.proofs.Owners.{Owners, idle_op, idle_reg}
use Rattle.hp_live.specs.Known.{IsOut}

not_self : (a k : ℕ) → eqb a k ≡ false → a ≡ k → ⊥
not_self a k apart is = false≢true (sym apart ∙ eq-eqb a k is)

client_ap : (cpu : ℕ) → Some Client ≡ Some (Ap cpu) → ⊥
client_ap cpu h = cc

-- who makes an entry is the thread of its processor, or whose operation it is
called_by : (xs : List Event) (c s : ℕ) (how : How) (client k : ℕ) (b : Bool) → cond b (ap_seat c xs) (Some client) ≡ Some k →
    (ap_seat c xs ≡ Some k) ⊎ (client ≡ k)
called_by xs c s how client k true h = inl h
called_by xs c s how client k false h = inr (same_some client k h)

no_thread : (xs : List Event) (c k : ℕ) → Owners xs → role_of k xs ≡ Some Client → ap_seat c xs ≡ Some k → ⊥
no_thread xs c k o role h = client_ap c (sym role ∙ o.ap_role c k h)

client_idle : (head : Head) (xs : List Event) (k : ℕ) → Owners xs → role_of k xs ≡ Some Client → is_busy k xs ≡ false → IsIdle head xs k
client_idle head xs k o role idle cpu s i dir how calls = ⊎_elim (in_walk cpu s i dir how) (in_registration cpu s i dir how) calls
  where
    in_walk : (cpu s i : ℕ) (dir : Dir) (how : How) → InWalk head xs k cpu s i dir how → ⊥
    in_walk cpu s i dir how w =
        ⊎_elim (no_thread xs cpu k o role)
        (λ by.
        let held = o.walk_op cpu w.entry.of w.entry.in_flight in
        not_self held.0.seat k (idle_op xs k held.0 idle held.1) (held.2 ∙ by))
        (called_by xs cpu s how w.entry.of.seat k (is_made_by_ap s how) w.caller_is)

    in_registration : (cpu s i : ℕ) (dir : Dir) (how : How) → InRegistration head xs k cpu s i dir how → ⊥
    in_registration cpu s i dir how r =
        ⊎_elim (no_thread xs cpu k o role)
        (λ by. not_self r.entry.of.seat k (idle_reg xs k r.entry.of idle r.entry.in_flight) by)
        (called_by xs cpu s how r.entry.of.seat k (is_made_by_ap s how) r.caller_is)

pub client_leaves : (head : Head) (xs : List Event) (k : ℕ) → IsLawful head xs → IsOut k xs → is_busy k xs ≡ false →
    Stands head xs (Leave k)
client_leaves head xs k lawful out idle = (
  record {
    is_in = (Client, out.role);
    not_reading = ap is_some out.not_reading;
    idle = idle;
    no_entry_due = client_idle head xs k (owners head xs lawful) out.role idle;
  },
  refl,
)

-- a thread has no operation
holder_none : (xs : List Event) (k c : ℕ) → Owners xs → role_of k xs ≡ Some (Ap c) → (o : Option Operation) → operation xs ≡ o →
    (b : Bool) → holds_map k o ≡ b → b ≡ false
holder_none xs k c owners role None is b h = sym h
holder_none xs k c owners role (Some o) is true h =
    absurd (client_ap c (sym (owners.op_client o is) ∙ ap (λ (n : ℕ). role_of n xs) (eqb-true o.seat k h) ∙ role))
holder_none xs k c owners role (Some o) is false h = refl

registrar_none : (xs : List Event) (k c : ℕ) → Owners xs → role_of k xs ≡ Some (Ap c) → (o : Option Registration) →
    registration xs ≡ o → (b : Bool) → registers k o ≡ b → b ≡ false
registrar_none xs k c owners role None is b h = sym h
registrar_none xs k c owners role (Some o) is true h =
    absurd (client_ap c (sym (owners.reg_client o is) ∙ ap (λ (n : ℕ). role_of n xs) (eqb-true o.seat k h) ∙ role))
registrar_none xs k c owners role (Some o) is false h = refl

thread_idle : (xs : List Event) (k c : ℕ) → Owners xs → role_of k xs ≡ Some (Ap c) → is_busy k xs ≡ false
thread_idle xs k c owners role =
    let a = holder_none xs k c owners role (operation xs) refl (holds_map k (operation xs)) refl in
    let b = registrar_none xs k c owners role (registration xs) refl (registers k (registration xs)) refl in
    rw (a, b) refl

pub thread_leaves : (head : Head) (xs : List Event) (k c : ℕ) → IsLawful head xs → role_of k xs ≡ Some (Ap c) →
    reading_since k xs ≡ None → due_entry head xs k ≡ None → Stands head xs (Leave k)
thread_leaves head xs k c lawful role out none = (
  record {
    is_in = (Ap c, role);
    not_reading = ap is_some out;
    idle = thread_idle xs k c (owners head xs lawful) role;
    no_entry_due = (due_nothing head xs k).0 none;
  },
  refl,
)

-- A seat that came in, and one that heard what another had seen.
use Rattle.std.proofs.Common.{◌≡◌, ◌≢◌, ℕ, All, Some, None, false, List, [], ◌∷◌, ◌++◌, refl, sym, ◌∙◌, subst}
use Rattle.std.proofs.lemmas.Bool.{eq-eqb}
use Rattle.std.proofs.lemmas.List.Elements.{All-weaker}
use Rattle.hp_event.specs.declared.event.Role.{Role}
use Rattle.hp_event.specs.declared.event.Role.TheVariants.{Client, Ap}
use Rattle.hp_event.specs.declared.head.Head.{Head}
use Rattle.hp_event.specs.declared.event.Event.{Event}
use Rattle.hp_event.specs.declared.event.Event.TheVariants.{Admit}
use Rattle.hp_model.specs.Events.{seat_of}
use Rattle.hp_model.specs.Front.{IsOther, StandsFor}
use Rattle.hp_model.specs.Lawful.{IsLawful}
use Rattle.hp_states.proofs.Basics.{same_some}
use Rattle.hp_board.proofs.Busy.{busy_push}
use Rattle.hp_model.specs.MapLock.{operation}
use Rattle.hp_model.specs.Readers.{reading_since}
use Rattle.hp_model.specs.Registrations.{registration}
use Rattle.hp_model.specs.Seats.{is_busy, role_of}
use Rattle.hp_model.proofs.Laws.{role_push, reading_since_push}
use Rattle.hp_model.proofs.ReadersKept.{none_reads_at_first}
use Rattle.hp_live.specs.Known.{IsThread, IsOut}
use Rattle.hp_live.specs.Sections.{AdmitsIn}
use Rattle.hp_live.proofs.Admitting.{is_new}
use Rattle.hp_live.proofs.Clients.{out_later}
use Rattle.hp_live.proofs.Others.{busy_later, role_later, since_later}

-- no event is of the seat
unseen : (k : ℕ) (found : List Event) → All (λ e. seat_of e ≢ k) found → StandsFor (Some k) [] found
unseen k found none =
    record {
      rest = found;
      whole = refl;
      others =
          All-weaker (λ e. seat_of e ≢ k) (IsOther (Some k)) (λ e other j is. subst (λ (n : ℕ). seat_of e ≢ n) (same_some k j is) other)
          found none;
    }

no_reader : (head : Head) (k : ℕ) (found : List Event) → IsLawful head found → All (λ e. seat_of e ≢ k) found → reading_since k found ≡ None
no_reader head k found lawful none = since_later head k None [] found (unseen k found none) lawful (none_reads_at_first k)

admitted_role : (k : ℕ) (role : Role) (found : List Event) → role_of k (found ++ Admit k role ∷ []) ≡ Some role
admitted_role k role found = let own = eq-eqb k k refl in role_push k found (Admit k role) ∙ rw own refl

pub new_role : (head : Head) (role : Role) (old new : List Event) (k : ℕ) → AdmitsIn head role old new k → role_of k new ≡ Some role
new_role head role old new k a = subst (λ (w : List Event). role_of k w ≡ Some role) (sym a.new_is) (admitted_role k role a.found)

pub new_out : (head : Head) (role : Role) (old new : List Event) (k : ℕ) → AdmitsIn head role old new k → reading_since k new ≡ None
new_out head role old new k a =
    subst (λ (w : List Event). reading_since k w ≡ None) (sym a.new_is)
    (reading_since_push k a.found (Admit k role)
    ∙ no_reader head k a.found a.lawful
    (subst (λ (n : ℕ). All (λ e. seat_of e ≢ n) a.found) (sym a.seat_is) (is_new head a.found a.lawful)))

pub client_new : (head : Head) (old front : List Event) (k : ℕ) → AdmitsIn head Client old front k → IsOut k front
client_new head old front k a =
    record { role = new_role head Client old front k a; not_reading = new_out head Client old front k a }

pub thread_new : (head : Head) (cpu : ℕ) (old front : List Event) (k : ℕ) → AdmitsIn head (Ap cpu) old front k → IsThread k front
thread_new head cpu old front k a =
    record { cpu = cpu; role = new_role head (Ap cpu) old front k a; not_reading = new_out head (Ap cpu) old front k a }

idle_first : (k : ℕ) → is_busy k [] ≡ false
unfolding operation registration
idle_first k = refl

-- a seat that is new has nothing in flight
pub new_idle : (head : Head) (role : Role) (old front : List Event) (k : ℕ) → AdmitsIn head role old front k → is_busy k front ≡ false
new_idle head role old front k a =
    subst (λ (w : List Event). is_busy k w ≡ false) (sym a.new_is)
    (busy_push k a.found (Admit k role)
    ∙ busy_later head k false [] a.found
    (unseen k a.found (subst (λ (n : ℕ). All (λ e. seat_of e ≢ n) a.found) (sym a.seat_is) (is_new head a.found a.lawful)))
    a.lawful (idle_first k))

pub client_told : (head : Head) (k : ℕ) (old new : List Event) → StandsFor (Some k) old new → IsLawful head new → IsOut k old → IsOut k new
client_told head k old new seen lawful out = out_later head k old new seen lawful out

pub thread_told : (head : Head) (k : ℕ) (old new : List Event) → StandsFor (Some k) old new → IsLawful head new → IsThread k old →
    IsThread k new
thread_told head k old new seen lawful t =
    record {
      cpu = t.cpu;
      role = role_later head k (Some (Ap t.cpu)) old new seen lawful t.role;
      not_reading = since_later head k None old new seen lawful t.not_reading;
    }

-- Who is in, by number: the role of each seat that was admitted, until it left, and the seat of each processor's thread; and
-- that this is what a journal says. This project's own.
use Rattle.std.specs.Prelude.{◌≡◌, ◌<◌, ◌≤◌, ℕ, if◌then◌else◌, Option, Some, None, List, [], ◌∷◌, ◌++◌, length, count_by, slice_set}
use Rattle.hp_states.specs.declared.limits.TheConstants.{MAX_SEATS}
use Rattle.hp_event.specs.declared.event.Role.{Role}
use Rattle.hp_event.specs.declared.event.Role.TheVariants.{Client, Ap}
use Rattle.hp_event.specs.declared.head.Head.{Head}
use Rattle.hp_event.specs.declared.event.Event.{Event}
use Rattle.hp_model.specs.Seats.{admits, role_of, ap_seat}
use Rattle.hp_model.specs.FirstEvent.{is_client}
use Rattle.hp_account.specs.Places.{at_place}

-- what contracts see of the seats
pub record SeatsView : Type 0 where
  pub roles : List (Option Role)
  pub threads : List (Option ℕ)

abbrev pub clients_among : List (Option Role) → ℕ
clients_among roles = count_by is_client roles

-- how many clients are in
abbrev pub clients_of : SeatsView → ℕ
clients_of r = clients_among r.roles

abbrev pub one_client : Option Role → ℕ
one_client role = if is_client role then 1 else 0

-- beside the roles stands how many clients are in
pub record IsCounted (roles : List (Option Role)) (clients : ℕ) : Type 0 where
  pub few : length roles ≤ MAX_SEATS
  pub counts : clients ≡ clients_among roles

-- the processor of a thread is one of so many
abbrev pub HasPlace : Role → (cpus : ℕ) → Type 0
HasPlace Client n = Unit {0}
HasPlace (Ap cpu) n = cpu < n

abbrev pub with_thread : Role → (seat : ℕ) → List (Option ℕ) → List (Option ℕ)
with_thread Client k threads = threads
with_thread (Ap cpu) k threads = slice_set threads cpu (Some k)

-- no thread of the processor is in
abbrev pub HasNoThread : Role → List (Option ℕ) → Type 0
HasNoThread Client threads = Unit {0}
HasNoThread (Ap cpu) threads = at_place threads cpu ≡ None

-- with the next seat, which has this role
abbrev pub with_seat : Role → SeatsView → SeatsView
with_seat role r = record { roles = r.roles ++ Some role ∷ []; threads = with_thread role (length r.roles) r.threads }

-- this admission is taken back: the seats are those before it, of which none was the thread of that processor
abbrev pub IsTakenBack : Role → (old new : SeatsView) → Type 0
IsTakenBack role old new = (before : SeatsView) → old ≡ with_seat role before → HasNoThread role before.threads → new ≡ before

-- a list without its last
abbrev pub IsWithoutLast : {A : Type 0} → (old new : List A) → Type 0
IsWithoutLast {A} old new = (before : List A) (last : A) → old ≡ before ++ last ∷ [] → new ≡ before

abbrev pub without_thread : Option Role → List (Option ℕ) → List (Option ℕ)
without_thread None threads = threads
without_thread (Some Client) threads = threads
without_thread (Some (Ap cpu)) threads = slice_set threads cpu None

-- without a seat, which has left
abbrev pub without_seat : (seat : ℕ) → SeatsView → SeatsView
without_seat k r = record { roles = slice_set r.roles k None; threads = without_thread (at_place r.roles k) r.threads }

-- the seats are those of a journal
pub record IsRoll (head : Head) (events : List Event) (r : SeatsView) : Type 0 where
  pub admitted : length r.roles ≡ admits events
  pub roles_are : (k : ℕ) → role_of k events ≡ at_place r.roles k
  pub cpus : length r.threads ≡ head.possible
  pub threads_are : (c : ℕ) → ap_seat c events ≡ at_place r.threads c
  pub sits : (k c : ℕ) → at_place r.roles k ≡ Some (Ap c) → at_place r.threads c ≡ Some k

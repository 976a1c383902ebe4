-- Seats: who is in, with which role, and which of them have an operation in flight. This project's own.
use Rattle.std.specs.Prelude.{ℕ, ◌+◌, ◌≡◌, ◌≢◌, ◌≤◌, All, Bool, false, ◌==◌, ◌||◌, if◌then◌else◌, Option, Some, None, List, [], ◌∷◌, ◌++◌}
use Rattle.hp_event.specs.declared.event.Role.{Role}
use Rattle.hp_event.specs.declared.event.Role.TheVariants.{Client, Ap}
use Rattle.hp_event.specs.declared.event.Event.{Event}
use Rattle.hp_event.specs.declared.event.Event.TheVariants.{Admit, Leave}
use Rattle.hp_event.specs.Events.{seat_of}
use Rattle.hp_model.specs.Journal.{over}
use Rattle.hp_model.specs.Lists.{without}
use Rattle.hp_model.specs.MapLock.{Operation, operation}
use Rattle.hp_model.specs.Registrations.{Registration, registration}

abbrev pub admits_step : ℕ → List Event → Event → ℕ
admits_step n before (Admit seat role) = n + 1
admits_step n before _ = n

-- how many seats were admitted
unfoldable pub admits : List Event → ℕ
admits events = over admits_step 0 events

abbrev pub role_step : (seat : ℕ) → Option Role → List Event → Event → Option Role
role_step k found before (Admit seat role) = if seat == k then Some role else found
role_step k found before (Leave seat) = if seat == k then None else found
role_step k found before _ = found

-- the role of a seat that is in
unfoldable pub role_of : (seat : ℕ) → List Event → Option Role
role_of k events = over (role_step k) None events

abbrev pub seats_step : List ℕ → List Event → Event → List ℕ
seats_step found before (Admit seat role) = without seat found ++ seat ∷ []
seats_step found before (Leave seat) = without seat found
seats_step found before _ = found

-- the seats that are in
unfoldable pub seats : List Event → List ℕ
seats events = over seats_step [] events

abbrev pub seated : (cpu seat : ℕ) → Role → Option ℕ → Option ℕ
seated c seat Client found = found
seated c seat (Ap cpu) found = if cpu == c then Some seat else found

abbrev pub unseated : (seat : ℕ) → Option ℕ → Option ℕ
unseated seat None = None
unseated seat (Some k) = if k == seat then None else Some k

abbrev pub ap_step : (cpu : ℕ) → Option ℕ → List Event → Event → Option ℕ
ap_step c found before (Admit seat role) = seated c seat role found
ap_step c found before (Leave seat) = unseated seat found
ap_step c found before _ = found

-- the seat that is in with role Ap of a processor, its hotplug thread
unfoldable pub ap_seat : (cpu : ℕ) → List Event → Option ℕ
ap_seat c events = over (ap_step c) None events

abbrev pub holds_map : (seat : ℕ) → Option Operation → Bool
holds_map k None = false
holds_map k (Some o) = o.seat == k

abbrev pub registers : (seat : ℕ) → Option Registration → Bool
registers k None = false
registers k (Some r) = r.seat == k

-- whether an operation of the seat is in flight
abbrev pub is_busy : (seat : ℕ) → List Event → Bool
is_busy k events = holds_map k (operation events) || registers k (registration events)

-- a client's seat that is in, with no operation in flight
pub record IsFree (events : List Event) (seat : ℕ) : Type 0 where
  pub client : role_of seat events ≡ Some Client
  pub idle : is_busy seat events ≡ false

-- no event is of a seat that wasn't let in: neither of the next one nor of any above it
abbrev pub NoneOfLaterSeats : List Event → Type 0
NoneOfLaterSeats events = (seat : ℕ) → admits events ≤ seat → All (λ e. seat_of e ≢ seat) events

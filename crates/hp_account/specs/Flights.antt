-- That walks in flight stand where a journal's entries lead. This project's own.
use Rattle.std.specs.Prelude.{◌≡◌, ℕ, Option, Some, None, List, length}
use Rattle.hp_states.specs.CpuSets.{has}
use Rattle.hp_event.specs.declared.head.Head.{Head}
use Rattle.hp_event.specs.declared.event.Event.{Event}
use Rattle.hp_model.specs.Lists.{among}
use Rattle.hp_model.specs.Walks.{Walk, walk, walk_entries, walking}
use Rattle.hp_model.specs.Registered.{registered, keys}
use Rattle.hp_model.specs.Promised.{promised_to_walk}
use Rattle.hp_walk.specs.Cursor.{cpu_of, from_of, to_of}
use Rattle.hp_walk.specs.After.{IsAfter}
use Rattle.hp_account.specs.declared.flights.Flight.{Flight}
use Rattle.hp_account.specs.declared.flights.Flights.{Flights}
use Rattle.hp_account.specs.Places.{at_place}

-- the walk of a processor: it stands after the entries so far, along what was registered when it began, which is still
-- registered
pub record IsFlight (head : Head) (events : List Event) (cpu : ℕ) (f : Flight) : Type 0 where
  pub of : Walk
  pub in_flight : walk cpu events ≡ Some of
  pub seat_is : f.seat ≡ of.seat
  pub walk_is : (cpu_of f.walk ≡ cpu) × (from_of f.walk ≡ of.from) × (to_of f.walk ≡ of.to)
  pub after : IsAfter (keys head of.before) (walk_entries cpu events) f.walk
  pub registered_same : (s : ℕ) → registered head s of.before ≡ registered head s events
  pub left_is : f.left ≡ promised_to_walk head (Some of) (walk_entries cpu events)

abbrev pub IsFlightOf : Head → List Event → (cpu : ℕ) → Option Flight → Type 0
IsFlightOf head events c None = walk c events ≡ None
IsFlightOf head events c (Some f) = IsFlight head events c f

pub record IsFlights (head : Head) (events : List Event) (f : Flights) : Type 0 where
  pub cpus : length f.by_cpu.items ≡ head.possible
  pub each : (c : ℕ) → IsFlightOf head events c (at_place f.by_cpu.items c)
  pub walking_is : (c : ℕ) → has f.walking c ≡ among c (walking events)

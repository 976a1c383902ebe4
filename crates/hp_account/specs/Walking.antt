-- That a walk in flight is one of a lawful journal's, with what its processor and the table are after its events. This
-- project's own.
use Rattle.std.specs.Prelude.{◌≡◌, ℕ, Option, Some, List}
use Rattle.hp_event.specs.declared.head.Head.{Head}
use Rattle.hp_event.specs.declared.event.Event.{Event}
use Rattle.hp_model.specs.Armed.{armed}
use Rattle.hp_model.specs.Lawful.{IsLawful}
use Rattle.hp_model.specs.Seats.{ap_seat}
use Rattle.hp_table.specs.Step.{Step}
use Rattle.hp_walk.specs.Cursor.{cpu_of}
use Rattle.hp_account.specs.declared.flights.Flight.{Flight}
use Rattle.hp_account.specs.declared.flights.Flights.{Flights}
use Rattle.hp_account.specs.Places.{at_place}
use Rattle.hp_account.specs.Flights.{IsFlights}
use Rattle.hp_account.specs.Table.{IsTableOf}

-- the journal is lawful; these are its table, where a processor is armed, and the seat of its thread
pub record IsSceneOf (head : Head) (events : List Event) (places : List (Option Step)) (cpu : ℕ) (armed_at thread : Option ℕ) :
    Type 0
  where
    pub lawful : IsLawful head events
    pub table_is : IsTableOf head events places
    pub armed_is : armed_at ≡ armed cpu events
    pub thread_is : thread ≡ ap_seat cpu events

-- the flight is one of the journal's
pub record IsFlightIn (head : Head) (events : List Event) (f : Flight) : Type 0 where
  pub flights : Flights
  pub flights_are : IsFlights head events flights
  pub there : at_place flights.by_cpu.items (cpu_of f.walk) ≡ Some f

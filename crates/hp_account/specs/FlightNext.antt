-- What comes next of a walk in flight, in whichever lawful journal it is one of: the event, and the state whose hook that calls. This
-- project's own.
use Rattle.std.specs.Prelude.{ℕ, Option, List}
use Rattle.hp_event.specs.declared.head.Head.{Head}
use Rattle.hp_event.specs.declared.event.Event.{Event}
use Rattle.hp_table.specs.Step.{Step}
use Rattle.hp_walk.specs.Cursor.{cpu_of}
use Rattle.hp_account.specs.declared.flights.Flight.{Flight}
use Rattle.hp_account.specs.declared.flights.Flights.{Flights}
use Rattle.hp_account.specs.declared.under_way.NextStep.{NextStep}
use Rattle.hp_account.specs.Flights.{IsFlights}
use Rattle.hp_account.specs.HookAsked.{WalkAsks}
use Rattle.hp_account.specs.WalkComing.{IsNextOn}
use Rattle.hp_account.specs.Walking.{IsFlightIn, IsSceneOf}

-- of a walk whose processor is armed there, and has its thread in as this seat, this comes next
abbrev pub IsNextOfFlight : Flight → List (Option Step) → (armed_at thread : Option ℕ) → NextStep → Type 0
IsNextOfFlight f places armed_at thread what =
    (head : Head) (events : List Event) → IsFlightIn head events f →
    IsSceneOf head events places (cpu_of f.walk) armed_at thread → IsNextOn head events (cpu_of f.walk) what

-- of the walk of a processor, among those in flight
abbrev pub IsNextOfFlights : Flights → List (Option Step) → (cpu : ℕ) → (armed_at thread : Option ℕ) → NextStep → Type 0
IsNextOfFlights f places cpu armed_at thread what =
    (head : Head) (events : List Event) → IsFlights head events f →
    IsSceneOf head events places cpu armed_at thread → IsNextOn head events cpu what

-- its next entry calls the hook of this state, or none
abbrev pub FlightAsks : Flight → List (Option Step) → (armed_at asked : Option ℕ) → Type 0
FlightAsks f places armed_at asked =
    (head : Head) (events : List Event) (thread : Option ℕ) → IsFlightIn head events f →
    IsSceneOf head events places (cpu_of f.walk) armed_at thread → WalkAsks head events (cpu_of f.walk) asked

abbrev pub FlightsAsk : Flights → List (Option Step) → (cpu : ℕ) → (armed_at asked : Option ℕ) → Type 0
FlightsAsk f places cpu armed_at asked =
    (head : Head) (events : List Event) (thread : Option ℕ) → IsFlights head events f →
    IsSceneOf head events places cpu armed_at thread → WalkAsks head events cpu asked

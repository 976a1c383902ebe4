-- How a walk ends, and what that asks of the table of states: the states that it crossed since its last call show none, and
-- that of the last call no more. This project's own.
use Rattle.std.specs.Prelude.{ℕ, ◌==◌, Bool, true, false, not, if◌then◌else◌, Option, Some, None, Result, Ok, Err}
use Rattle.hp_trace_walk.specs.declared.ask.Ask.{Ask}
use Rattle.hp_trace_walk.specs.declared.ask.Asks.{Asks}
use Rattle.hp_trace_walk.specs.declared.walk.Borders.{Borders}
use Rattle.hp_trace_walk.specs.declared.walk.Phase.{Phase}
use Rattle.hp_trace_walk.specs.declared.walk.Phase.TheVariants.{Begun, Forward, Failed, Back, Stuck}
use Rattle.hp_trace_walk.specs.declared.walk.Walk.{Walk}
use Rattle.hp_trace_walk.specs.declared.walk.Wrong.{Wrong}
use Rattle.hp_trace_walk.specs.declared.walk.Wrong.TheVariants.{NoFault, NoStop, NoAnswer}
use Rattle.hp_trace_walk.specs.declared.ends.How.{How}
use Rattle.hp_trace_walk.specs.declared.ends.How.TheVariants.{Went, Returned, Stopped}
use Rattle.hp_trace_walk.specs.Asks.{one_more, one_less, nothing, no_asks, exactly, none_between, none_up_to}
use Rattle.hp_trace_walk.specs.Walks.{limit, may_turn, is_stop, is_turned}
use Rattle.hp_trace_walk.specs.Steps.{part_ask}

abbrev pub asks_at_end : (whole passed back : Ask) → Asks
asks_at_end whole passed back =
    record { made = nothing; other = nothing; whole = whole; passed = passed; back = back; before = nothing }

-- ---- it reached what it asked for

abbrev pub reached_at : Walk → Phase → (edge : Option ℕ) → Result Asks Wrong
reached_at w (Forward at count) edge =
    Ok (asks_at_end (exactly at w.up count) (none_between w.up at (limit w) w.up) nothing)
reached_at w Begun (Some edge) = Ok (asks_at_end nothing (none_between w.up edge (limit w) w.up) nothing)
reached_at w Begun None = Ok no_asks
reached_at w (Failed at parts undone) edge = Err NoAnswer
reached_at w (Back at count) edge = Err NoAnswer
reached_at w (Stuck at parts undone) edge = Err NoAnswer

abbrev pub reached : Walk → Result Asks Wrong
reached w = reached_at w w.phase w.edge

abbrev pub went : Borders → Walk → Result Asks Wrong
went b w = if is_stop b w.to then reached w else Err NoStop

-- ---- a second fault stopped it

abbrev pub fault_asks : Result Ask Wrong → Result Asks Wrong
fault_asks (Ok whole) = Ok (asks_at_end whole nothing nothing)
fault_asks (Err wrong) = Err wrong

abbrev pub at_fault : (at : ℕ) → (up : Bool) → (parts undone : ℕ) → Result Asks Wrong
at_fault at up parts undone = fault_asks (part_ask at up parts undone)

abbrev pub stopped_at : Walk → Phase → Result Asks Wrong
stopped_at w Begun = Ok no_asks
stopped_at w (Forward at count) = Ok (asks_at_end (exactly at w.up count) nothing nothing)
stopped_at w (Failed at parts undone) = at_fault at w.up parts undone
stopped_at w (Back at count) = Ok (asks_at_end (exactly at (not w.up) count) nothing nothing)
stopped_at w (Stuck at parts undone) = at_fault at (not w.up) parts undone

abbrev pub stopped : Walk → Result Asks Wrong
stopped w = stopped_at w w.phase

-- ---- a fault turned it, and it came back

abbrev pub home_at : (up : Bool) → (edge first : Option ℕ) → Option ℕ
home_at up (Some edge) first = Some edge
home_at up None (Some first) = if up then Some (one_less first) else Some (one_more first)
home_at up None None = None

-- the state behind which the walk's states are
abbrev pub home_of : Walk → Option ℕ
home_of w = home_at w.up w.edge w.first

abbrev pub beside_at : (up : Bool) → (edge : Option ℕ) → Option ℕ
beside_at up (Some edge) = if up then Some (one_more edge) else Some (one_less edge)
beside_at up None = None

abbrev pub beside_of : Walk → Option ℕ
beside_of w = beside_at w.up w.edge

abbrev pub returned_silently : Borders → Walk → (home at count : ℕ) → Result Asks Wrong
returned_silently b w home at count =
    if may_turn b w.up at w.to then Ok (asks_at_end (exactly at w.up count) nothing (none_up_to w.up home at (not w.up))) else Err NoFault

abbrev pub from_part : Walk → (home at : ℕ) → Result Ask Wrong → Result Asks Wrong
from_part w home at (Ok whole) = Ok (asks_at_end whole nothing (none_between w.up home at (not w.up)))
from_part w home at (Err wrong) = Err wrong

abbrev pub returned_from : Walk → (home at parts undone : ℕ) → Result Asks Wrong
returned_from w home at parts undone = from_part w home at (part_ask at w.up parts undone)

abbrev pub returned_at : Borders → Walk → (home : ℕ) → Phase → Result Asks Wrong
returned_at b w home Begun = Ok no_asks
returned_at b w home (Forward at count) = returned_silently b w home at count
returned_at b w home (Failed at parts undone) = returned_from w home at parts undone
returned_at b w home (Back at count) =
    Ok (asks_at_end (exactly at (not w.up) count) nothing (none_between w.up home at (not w.up)))
returned_at b w home (Stuck at parts undone) = stopped w

abbrev pub returned_to : Borders → Walk → (home : ℕ) → Result Asks Wrong
returned_to b w home = returned_at b w home w.phase

abbrev pub to_home : Borders → Walk → (home : Option ℕ) → Result Asks Wrong
to_home b w None = Ok no_asks
to_home b w (Some home) = returned_to b w home

abbrev pub returned : Borders → Walk → Result Asks Wrong
returned b w = to_home b w (home_of w)

-- ---- how

abbrev pub how_at : (turned : Bool) → Phase → How
how_at turned (Stuck at parts undone) = Stopped
how_at turned Begun = if turned then Returned else Went
how_at turned (Forward at count) = if turned then Returned else Went
how_at turned (Failed at parts undone) = if turned then Returned else Went
how_at turned (Back at count) = if turned then Returned else Went

-- where another line comes behind it
abbrev pub how_of : Walk → How
how_of w = how_at (is_turned w) w.phase

abbrev pub ended : Borders → Walk → How → Result Asks Wrong
ended b w Went = went b w
ended b w Returned = returned b w
ended b w Stopped = stopped w

abbrev pub closed : Borders → Option Walk → Option How → Result Asks Wrong
closed b None how = Ok no_asks
closed b (Some w) (Some how) = ended b w how
closed b (Some w) None = ended b w (how_of w)

-- ---- the answer of `cpuhp_kick_ap_work`

abbrev pub home_is : (up : Bool) → (edge : Option ℕ) → (state : ℕ) → Bool
home_is up None state = false
home_is up (Some edge) state = if up then edge == state else edge == one_more state

abbrev pub is_home : Walk → (state : ℕ) → Bool
is_home w state = home_is w.up w.edge state

abbrev pub kicked_to : Borders → Walk → (home : Bool) → (beside : Option ℕ) → Result Asks Wrong
kicked_to b w true (Some beside) = returned_to b w beside
kicked_to b w true None = stopped w
kicked_to b w false beside = stopped w

-- the state beside the one from which it comes isn't asked: a second fault there, that no line shows, has the same lines
abbrev pub kicked_back : Borders → Walk → (state : ℕ) → Result Asks Wrong
kicked_back b w state = kicked_to b w (is_home w state) (beside_of w)

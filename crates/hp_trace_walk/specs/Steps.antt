-- What a call does to a walk, and asks of the table of states. A walk goes forward, from state to state; of the states that
-- it crosses each shows as many calls as the table has for it. A fault turns it: of the state of the fault the instances that
-- were called before are undone, or nothing, and then each state back to where it comes from. A fault on the way back stops
-- it. A fault that no line shows stands behind the furthest state that was called. This project's own.
use Rattle.std.specs.Prelude.{ℕ, ◌==◌, nat_lt, Bool, true, not, ◌&&◌, if◌then◌else◌, Option, Some, None, Result, Ok, Err}
use Rattle.hp_trace_walk.specs.declared.ask.Ask.{Ask}
use Rattle.hp_trace_walk.specs.declared.ask.Asks.{Asks}
use Rattle.hp_trace_walk.specs.declared.walk.Borders.{Borders}
use Rattle.hp_trace_walk.specs.declared.walk.Phase.{Phase}
use Rattle.hp_trace_walk.specs.declared.walk.Phase.TheVariants.{Begun, Forward, Failed, Back, Stuck}
use Rattle.hp_trace_walk.specs.declared.walk.Walk.{Walk}
use Rattle.hp_trace_walk.specs.declared.walk.Call.{Call}
use Rattle.hp_trace_walk.specs.declared.walk.Wrong.{Wrong}
use Rattle.hp_trace_walk.specs.declared.walk.Wrong.TheVariants.{OutOfOrder, OutOfWalk, AfterFault, AfterSecondFault, NotDone, PartNotUndone, NoFault, Starting}
use Rattle.hp_trace_walk.specs.declared.step.Asked.{Asked}
use Rattle.hp_trace_walk.specs.Asks.{one_more, one_less, is_same, nothing, no_asks, exactly, at_least, none_between, none_up_to, none_from}
use Rattle.hp_trace_walk.specs.Walks.{is_after, later, limit, is_starting, may_turn}

-- ---- where a walk stands behind a call that is the count-th of its state

abbrev pub phase_forward : Call → (count : ℕ) → Phase
phase_forward c count = if c.fails then Failed c.state (one_less count) 0 else Forward c.state count

abbrev pub phase_back : Call → (count : ℕ) → Phase
phase_back c count = if c.fails then Stuck c.state (one_less count) 0 else Back c.state count

abbrev pub at_phase : Walk → (first : Option ℕ) → Phase → Walk
at_phase w first phase =
    record { cpu = w.cpu; up = w.up; to = w.to; kicked = w.kicked; edge = w.edge; first = first; phase = phase; failing = w.failing }

-- ---- what a call asks

abbrev pub asks_of : Call → (count : ℕ) → (whole passed back before : Ask) → Asks
asks_of c count whole passed back before = record {
  made = at_least c.state c.up count c.multi;
  other = at_least c.state (not c.up) 0 c.multi;
  whole = whole;
  passed = passed;
  back = back;
  before = before;
}

abbrev pub asks_of_call : Call → (count : ℕ) → Asks
asks_of_call c count = asks_of c count nothing nothing nothing nothing

-- ---- forward

abbrev pub begin_behind : Walk → Call → (edge : Option ℕ) → Result Asked Wrong
begin_behind w c None = Ok (record { walk = at_phase w (Some c.state) (phase_forward c 1); asks = asks_of_call c 1 })
begin_behind w c (Some edge) =
    if is_after w.up c.state edge then
    Ok (record {
      walk = at_phase w (Some c.state) (phase_forward c 1);
      asks = asks_of c 1 nothing (none_between w.up edge c.state w.up) nothing nothing;
    })
    else Err OutOfWalk

abbrev pub begin_forward : Walk → Call → Result Asked Wrong
begin_forward w c = begin_behind w c w.edge

abbrev pub more_forward : Walk → Call → (at count : ℕ) → Result Asked Wrong
more_forward w c at count =
    if c.state == at then
    Ok (record { walk = at_phase w w.first (phase_forward c (one_more count)); asks = asks_of_call c (one_more count) })
    else if is_after w.up c.state at then
    Ok (record {
      walk = at_phase w w.first (phase_forward c 1);
      asks = asks_of c 1 (exactly at w.up count) (none_between w.up at c.state w.up) nothing nothing;
    })
    else Err OutOfOrder

-- below the booting the exit of an instance that is undone says the state of the first direction
abbrev pub part_forward : Walk → Call → (at parts undone : ℕ) → Result Asked Wrong
part_forward w c at parts undone =
    if c.state == at && nat_lt undone parts then
    Ok (record { walk = at_phase w w.first (Failed at parts (one_more undone)); asks = no_asks })
    else Err AfterFault

abbrev pub part_stuck : Walk → Call → (at parts undone : ℕ) → Result Asked Wrong
part_stuck w c at parts undone =
    if c.state == at && nat_lt undone parts then
    Ok (record { walk = at_phase w w.first (Stuck at parts (one_more undone)); asks = asks_of_call c 1 })
    else Err AfterSecondFault

abbrev pub forward_at : Walk → Call → Phase → Result Asked Wrong
forward_at w c Begun = begin_forward w c
forward_at w c (Forward at count) = more_forward w c at count
forward_at w c (Failed at parts undone) = part_forward w c at parts undone
forward_at w c (Back at count) = Err AfterFault
forward_at w c (Stuck at parts undone) = part_stuck w c at parts undone

abbrev pub forward : Walk → Call → Result Asked Wrong
forward w c = if is_after w.up (limit w) c.state then forward_at w c w.phase else Err OutOfWalk

-- ---- back

-- the states that were crossed before the first that was seen show none
abbrev pub before_seen : (up : Bool) → (edge first : Option ℕ) → (state : ℕ) → Ask
before_seen up (Some edge) first state = nothing
before_seen up None None state = none_from up state state up
before_seen up None (Some first) state = if is_after up first state then none_from up state first up else nothing

abbrev pub before_first : Walk → (state : ℕ) → Ask
before_first w state = before_seen w.up w.edge w.first state

abbrev pub first_of : (up : Bool) → (first : Option ℕ) → (state : ℕ) → Option ℕ
first_of up None state = Some state
first_of up (Some first) state = if is_after up first state then Some state else Some first

abbrev pub first_with : Walk → (state : ℕ) → Option ℕ
first_with w state = first_of w.up w.first state

abbrev pub walk_back : Walk → Call → (count : ℕ) → Walk
walk_back w c count = at_phase w (first_with w c.state) (phase_back c count)

abbrev pub passed_behind : (up : Bool) → (near edge : Option ℕ) → (furthest : ℕ) → Ask
passed_behind up (Some near) edge furthest = none_up_to up near furthest up
passed_behind up None (Some edge) furthest = none_up_to up edge furthest up
passed_behind up None None furthest = nothing

abbrev pub passed_forward : Walk → (near : Option ℕ) → (furthest : ℕ) → Ask
passed_forward w near furthest = passed_behind w.up near w.edge furthest

-- no line shows the fault: it was behind the furthest state
abbrev pub turn : Borders → Walk → Call → (near : Option ℕ) → (furthest : ℕ) → (whole : Ask) → Result Asked Wrong
turn b w c near furthest whole =
    if may_turn b w.up furthest w.to then
    Ok (record {
      walk = walk_back w c 1;
      asks = asks_of c 1 whole (passed_forward w near furthest) (none_up_to w.up c.state furthest (not w.up)) (before_first w c.state);
    })
    else Err NoFault

-- all of the instances that were called before the one that failed are undone, or none: then none has a callback for it
abbrev pub part_ask : (at : ℕ) → (up : Bool) → (parts undone : ℕ) → Result Ask Wrong
part_ask at up parts undone =
    if parts == undone then Ok nothing
    else if undone == 0 then Ok (exactly at (not up) 0)
    else Err PartNotUndone

abbrev pub part_back : Walk → Call → (at parts undone : ℕ) → Result Asked Wrong
part_back w c at parts undone =
    if nat_lt undone parts then
    Ok (record { walk = at_phase w w.first (Failed at parts (one_more undone)); asks = asks_of_call c 1 })
    else Err NotDone

abbrev pub first_back : Walk → Call → (at : ℕ) → (whole : Ask) → Asked
first_back w c at whole = record {
  walk = walk_back w c 1;
  asks = asks_of c 1 whole (none_between w.up c.state at (not w.up)) nothing (before_first w c.state);
}

abbrev pub first_back_of : Walk → Call → (at : ℕ) → Result Ask Wrong → Result Asked Wrong
first_back_of w c at (Ok whole) = Ok (first_back w c at whole)
first_back_of w c at (Err wrong) = Err wrong

abbrev pub back_from_fault : Walk → Call → (at parts undone : ℕ) → Result Asked Wrong
back_from_fault w c at parts undone =
    if c.state == at then part_back w c at parts undone
    else if is_after w.up at c.state then first_back_of w c at (part_ask at w.up parts undone)
    else Err NotDone

abbrev pub more_back : Walk → Call → (at count : ℕ) → Result Asked Wrong
more_back w c at count =
    if c.state == at then Ok (record { walk = walk_back w c (one_more count); asks = asks_of_call c (one_more count) })
    else if is_after w.up at c.state then Ok (first_back w c at (exactly at (not w.up) count))
    else Err OutOfOrder

abbrev pub is_behind : (up : Bool) → (edge : Option ℕ) → (state : ℕ) → Bool
is_behind up None state = true
is_behind up (Some edge) state = is_after up state edge

abbrev pub is_behind_edge : Walk → (state : ℕ) → Bool
is_behind_edge w state = is_behind w.up w.edge state

abbrev pub back_at : Borders → Walk → Call → Phase → Result Asked Wrong
back_at b w c Begun = turn b w c None c.state nothing
back_at b w c (Forward at count) = turn b w c (Some at) (later w.up at c.state) (exactly at w.up count)
back_at b w c (Failed at parts undone) = back_from_fault w c at parts undone
back_at b w c (Back at count) = more_back w c at count
back_at b w c (Stuck at parts undone) = Err AfterSecondFault

abbrev pub back : Borders → Walk → Call → Result Asked Wrong
back b w c = if is_behind_edge w c.state then back_at b w c w.phase else Err NotDone

-- ---- either

abbrev pub called : Borders → Walk → Call → Result Asked Wrong
called b w c =
    if is_starting b c.state then Err Starting
    else if is_same c.up w.up then forward w c
    else back b w c

-- A walk as the lines of a trace show it, and which states it can call. This project's own.
use Rattle.std.specs.Prelude.{ℕ, nat_lt, nat_le, Bool, true, ◌&&◌, ◌||◌, if◌then◌else◌}
use Rattle.hp_trace_walk.specs.declared.walk.Borders.{Borders}
use Rattle.hp_trace_walk.specs.declared.walk.Phase.{Phase}
use Rattle.hp_trace_walk.specs.declared.walk.Phase.TheVariants.{Begun, Forward, Failed, Back, Stuck}
use Rattle.hp_trace_walk.specs.declared.walk.Walk.{Walk}
use Rattle.hp_trace_walk.specs.Asks.{one_more}

-- one state comes behind another in a walk
abbrev pub is_after : (up : Bool) → (one other : ℕ) → Bool
is_after up one other = if up then nat_lt other one else nat_lt one other

abbrev pub later : (up : Bool) → (one other : ℕ) → ℕ
later up one other = if is_after up one other then one else other

-- the state before which a walk ends
abbrev pub limit : Walk → ℕ
limit w = if w.up then one_more w.to else w.to

-- a state whose callbacks no line shows: they are called where the processor isn't online
abbrev pub is_starting : Borders → (state : ℕ) → Bool
is_starting b state = nat_lt b.boot state && nat_lt state b.take

-- a fault of this callback turns a walk: not that of a teardown below the booting
abbrev pub can_fail : Borders → (up : Bool) → (state : ℕ) → Bool
can_fail b up state = nat_le b.take state || (up && nat_le state b.boot)

-- there is a state behind this one, up to where the walk goes, of which a callback may fail
abbrev pub may_turn : Borders → (up : Bool) → (behind to : ℕ) → Bool
may_turn b up behind to =
    if up then nat_lt behind to && (nat_lt behind b.boot || nat_le b.take to) else nat_lt (one_more to) behind && nat_lt b.take behind

-- a walk can stop there
abbrev pub is_stop : Borders → (state : ℕ) → Bool
is_stop b state = nat_lt state b.boot || nat_lt (one_more b.take) state

abbrev pub has_turned : Phase → (failing : Bool) → Bool
has_turned Begun failing = failing
has_turned (Forward at count) failing = failing
has_turned (Failed at parts undone) failing = true
has_turned (Back at count) failing = true
has_turned (Stuck at parts undone) failing = true

abbrev pub is_turned : Walk → Bool
is_turned w = has_turned w.phase w.failing

-- Whether a call goes on with the walk that is open, or another walk begins with it, or it is a registration's. This
-- project's own.
use Rattle.std.specs.Prelude.{ℕ, ◌==◌, nat_lt, nat_le, Bool, true, false, not, ◌&&◌, ◌||◌, if◌then◌else◌, Option, Some, None}
use Rattle.hp_trace_walk.specs.declared.walk.Borders.{Borders}
use Rattle.hp_trace_walk.specs.declared.walk.Phase.{Phase}
use Rattle.hp_trace_walk.specs.declared.walk.Phase.TheVariants.{Begun, Forward, Failed, Back, Stuck}
use Rattle.hp_trace_walk.specs.declared.walk.Walk.{Walk}
use Rattle.hp_trace_walk.specs.declared.walk.Call.{Call}
use Rattle.hp_trace_walk.specs.declared.ends.How.TheVariants.{Went, Returned}
use Rattle.hp_trace_walk.specs.declared.begin.Next.{Next}
use Rattle.hp_trace_walk.specs.declared.begin.Next.TheVariants.{Goes, Begins, Registers}
use Rattle.hp_trace_walk.specs.Asks.{is_same}
use Rattle.hp_trace_walk.specs.Walks.{is_after, later, is_turned}

abbrev pub with_target : Walk → (to : ℕ) → (edge : Option ℕ) → Walk
with_target w to edge =
    record { cpu = w.cpu; up = w.up; to = to; kicked = w.kicked; edge = edge; first = w.first; phase = w.phase; failing = w.failing }

-- ---- in the direction of a walk that hasn't turned

abbrev pub further : (up : Bool) → Phase → Call → Bool
further up (Forward at count) c = is_after up c.state at || (c.state == at && c.multi)
further up Begun c = true
further up (Failed at parts undone) c = true
further up (Back at count) c = true
further up (Stuck at parts undone) c = true

abbrev pub is_further : Walk → Call → Bool
is_further w c = further w.up w.phase c

-- the part of a walk down that the processor's own thread makes asks for the state that takes the processor down
abbrev pub next_forward : Borders → Walk → Call → Next
next_forward b w c =
    if is_further w c then
    (if c.target == w.to then Goes w
    else if not w.up && w.kicked && w.to == b.take then Goes (with_target w c.target w.edge)
    else Begins (Some Went))
    else Begins (Some Returned)

-- ---- against it

-- the way back asks for the state from which the walk comes
abbrev pub from_edge : Walk → Call → (edge : Option ℕ) → Walk
from_edge w c None = if w.up then with_target w w.to (Some c.target) else w
from_edge w c (Some edge) = w

abbrev pub from_call : Walk → Call → Walk
from_call w c = from_edge w c w.edge

abbrev pub edge_may_be : (edge : Option ℕ) → (state : ℕ) → Bool
edge_may_be None state = true
edge_may_be (Some edge) state = edge == state

abbrev pub may_come_from : Walk → (state : ℕ) → Bool
may_come_from w state = edge_may_be w.edge state

abbrev pub furthest_at : (up : Bool) → Phase → (state : ℕ) → ℕ
furthest_at up (Forward at count) state = later up at state
furthest_at up Begun state = state
furthest_at up (Failed at parts undone) state = state
furthest_at up (Back at count) state = state
furthest_at up (Stuck at parts undone) state = state

abbrev pub furthest : Walk → Call → ℕ
furthest w c = furthest_at w.up w.phase c.state

abbrev pub high : Borders → Phase → Bool
high b (Forward at count) = nat_lt b.take at
high b Begun = true
high b (Failed at parts undone) = true
high b (Back at count) = true
high b (Stuck at parts undone) = true

abbrev pub is_high : Borders → Walk → Bool
is_high b w = high b w.phase

abbrev pub turns : Borders → Walk → Call → Bool
turns b w c =
    if w.up then nat_le b.boot w.to || (may_come_from w c.target && nat_lt (furthest w c) w.to)
    else w.kicked && w.to == b.take && is_high b w

abbrev pub next_against : Borders → Walk → Call → Next
next_against b w c = if turns b w c then Goes (from_call w c) else Begins (Some Went)

-- ---- behind a turn

abbrev pub part : Phase → Call → Bool
part (Failed at parts undone) c = c.multi && c.state == at && nat_lt undone parts
part Begun c = false
part (Forward at count) c = false
part (Back at count) c = false
part (Stuck at parts undone) c = false

abbrev pub is_part : Walk → Call → Bool
is_part w c = part w.phase c

abbrev pub before_edge : (up : Bool) → (edge : Option ℕ) → (state : ℕ) → Bool
before_edge up None state = false
before_edge up (Some edge) state = not (is_after up state edge)

abbrev pub is_before : Walk → Call → Bool
is_before w c = before_edge w.up w.edge c.state

abbrev pub next_turned : Walk → Call → Next
next_turned w c =
    if is_part w c then Goes w
    else if is_same c.up w.up || is_before w c then Begins None
    else Goes (from_call w c)

-- ---- any

abbrev pub next_outside : Borders → Walk → Call → Next
next_outside b w c =
    if is_turned w then next_turned w c
    else if is_same c.up w.up then next_forward b w c
    else next_against b w c

abbrev pub or_registers : Next → Call → Next
or_registers (Begins how) c = if c.up && c.state == c.target then Registers how else Begins how
or_registers (Goes w) c = Goes w
or_registers (Registers how) c = Registers how

abbrev pub next_in : Borders → Walk → Call → (inside : Bool) → Next
next_in b w c inside =
    if w.cpu == c.cpu then (if inside then Goes w else or_registers (next_outside b w c) c)
    else or_registers (Begins None) c

abbrev pub next_of : Borders → Option Walk → Call → (inside : Bool) → Next
next_of b None c inside = or_registers (Begins None) c
next_of b (Some w) c inside = next_in b w c inside

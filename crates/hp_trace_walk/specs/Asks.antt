-- What lines ask of the table of states: of each state from one on and below another, how many calls a crossing of it in
-- one direction shows, at least and at most. This project's own.
use Rattle.std.specs.Prelude.{ℕ, ◌+◌, ◌-◌, nat_lt, Bool, true, not, if◌then◌else◌}
use Rattle.hp_trace_walk.specs.declared.ask.Ask.{Ask}
use Rattle.hp_trace_walk.specs.declared.ask.Asks.{Asks}
use Rattle.hp_trace_walk.specs.declared.ask.TheConstants.{MOST_CALLS}

-- no number here comes near the most
abbrev pub one_more : ℕ → ℕ
one_more n = if nat_lt n 4294967295 then n + 1 else n

abbrev pub one_less : ℕ → ℕ
one_less n = if nat_lt 0 n then n - 1 else n

abbrev pub is_same : Bool → Bool → Bool
is_same up other = if up then other else not other

abbrev pub nothing : Ask
nothing = record { from = 0; below = 0; up = true; least = 0; most = MOST_CALLS }

abbrev pub no_asks : Asks
no_asks = record { made = nothing; other = nothing; whole = nothing; passed = nothing; back = nothing; before = nothing }

-- no call
abbrev pub none : (from below : ℕ) → (up : Bool) → Ask
none from below up = record { from = from; below = below; up = up; least = 0; most = 0 }

-- just so many
abbrev pub exactly : (state : ℕ) → (up : Bool) → (count : ℕ) → Ask
exactly state up count = record { from = state; below = one_more state; up = up; least = count; most = count }

-- a state without instances shows one call
abbrev pub most_of : (multi : Bool) → ℕ
most_of multi = if multi then MOST_CALLS else 1

-- as many or more
abbrev pub at_least : (state : ℕ) → (up : Bool) → (count : ℕ) → (multi : Bool) → Ask
at_least state up count multi = record { from = state; below = one_more state; up = up; least = count; most = most_of multi }

-- of the states that a walk crosses behind one and before another
abbrev pub none_between : (walk_up : Bool) → (near far : ℕ) → (up : Bool) → Ask
none_between walk_up near far up = if walk_up then none (one_more near) far up else none (one_more far) near up

-- and of the other
abbrev pub none_up_to : (walk_up : Bool) → (near far : ℕ) → (up : Bool) → Ask
none_up_to walk_up near far up = if walk_up then none (one_more near) (one_more far) up else none far near up

-- and of the one
abbrev pub none_from : (walk_up : Bool) → (near far : ℕ) → (up : Bool) → Ask
none_from walk_up near far up = if walk_up then none near far up else none (one_more far) (one_more near) up

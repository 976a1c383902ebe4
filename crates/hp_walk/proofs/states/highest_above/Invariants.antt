use Rattle.std.proofs.Common.{◌≡◌, ℕ, ◌-◌, ◌<◌, ◌≤◌, []}
use Rattle.hp_walk.specs.Keys.{keys_by}
use Rattle.hp_walk.proofs.states.highest_above.Given as goal

-- the states above have no key
abbrev pub invariant-loop-state : goal.invariant-loop-state
invariant-loop-state g l = (l.state ≤ l.high) × ((t : ℕ) → l.state < t → t ≤ l.high → keys_by l.table t ≡ [])

abbrev pub decreases-loop-state : goal.decreases-loop-state
decreases-loop-state g l = l.state - l.low

use Rattle.std.proofs.Common.{◌≡◌, ℕ, ◌+◌, ◌-◌, ◌<◌, []}
use Rattle.hp_walk.specs.Keys.{keys_by}
use Rattle.hp_walk.proofs.states.lowest_above.Given as goal

-- the states below have no key
abbrev pub invariant-loop-state : goal.invariant-loop-state
invariant-loop-state g l = record {
  above : l.low < l.from;
  none : (t : ℕ) → l.low < t → t < l.from → keys_by l.table t ≡ [];
}

abbrev pub decreases-loop-state : goal.decreases-loop-state
decreases-loop-state g l = l.high + 1 - l.from

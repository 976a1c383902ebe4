use Rattle.std.proofs.Common.{◌≡◌, ◌≤◌, ◌-◌, ◌++◌, take, drop, length}
use Rattle.hp_model.specs.Net.{with_key}
use Rattle.hp_model.proofs.net.put.Given as goal

abbrev pub invariant-loop-at : goal.invariant-loop-at
invariant-loop-at l =
    (with_key l.key l.keys.items ≡ take l.at l.keys.items ++ with_key l.key (drop l.at l.keys.items))
    × (l.at ≤ length l.keys.items)

abbrev pub decreases-loop-at : goal.decreases-loop-at
decreases-loop-at l = length l.keys.items - l.at

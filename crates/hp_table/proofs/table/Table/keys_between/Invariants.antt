use Rattle.std.proofs.Common.{◌≡◌, ◌+◌, ◌-◌, ◌≤◌, take, min}
use Rattle.std.specs.Prelude.{sum_by}
use Rattle.hp_states.specs.declared.limits.TheConstants.{ONLINE}
use Rattle.hp_table.specs.Keys.{keys_of}
use Rattle.hp_table.proofs.table.Table.keys_between.Given as goal

-- the keys of the states before the one where the next is looked for
abbrev pub invariant-loop-state : goal.invariant-loop-state
invariant-loop-state g l = record {
  so_far :
      l.keys + sum_by keys_of (take (min l.fn.low (min l.fn.high ONLINE) + 1) l.self) ≡ sum_by keys_of (take l.from l.self);
  within : l.from ≤ min l.fn.high ONLINE + 1;
}

abbrev pub decreases-loop-state : goal.decreases-loop-state
decreases-loop-state g l = min l.fn.high ONLINE + 1 - l.from

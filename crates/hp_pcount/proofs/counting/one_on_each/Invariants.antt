use Rattle.std.proofs.Common.{◌≡◌, ◌+◌, ◌-◌, ◌≤◌}
use Rattle.hp_states.specs.declared.limits.TheConstants.{MAX_CPU_SET}
use Rattle.hp_pcount.proofs.Additions.{ones_below}
use Rattle.hp_pcount.proofs.counting.one_on_each.Given as goal

abbrev pub invariant-loop-cpu : goal.invariant-loop-cpu
invariant-loop-cpu l = record {
  so_far : l.counters ≡ ones_below l.fn.counters l.from;
  opened_same : l.counters.opened ≡ l.fn.counters.opened;
  few : l.counters.adds ≤ l.fn.counters.adds + l.from;
  within : l.from ≤ MAX_CPU_SET;
}

abbrev pub decreases-loop-cpu : goal.decreases-loop-cpu
decreases-loop-cpu l = MAX_CPU_SET - l.from

use Rattle.std.proofs.Common.{◌≡◌, ◌-◌, ◌≤◌}
use Rattle.hp_states.specs.declared.limits.TheConstants.{MAX_CPU_SET}
use Rattle.hp_work.specs.Changes.{ran_on}
use Rattle.hp_work.proofs.Through.{done_below}
use Rattle.hp_work.proofs.going.run_on_each.Given as goal

abbrev pub invariant-loop-cpu : goal.invariant-loop-cpu
invariant-loop-cpu l = record {
  so_far : l.queues ≡ done_below (λ w cpu. ran_on cpu w) l.fn.queues l.from;
  opened_same : l.queues.opened ≡ l.fn.queues.opened;
  within : l.from ≤ MAX_CPU_SET;
}

abbrev pub decreases-loop-cpu : goal.decreases-loop-cpu
decreases-loop-cpu l = MAX_CPU_SET - l.from

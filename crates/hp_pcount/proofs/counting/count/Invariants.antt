use Rattle.std.proofs.Common.{◌≡◌, ◌*◌, ◌≤◌, take}
use Rattle.hp_states.specs.declared.limits.TheConstants.{MAX_CPU_SET}
use Rattle.hp_pcount.specs.Counted.{counted}
use Rattle.hp_pcount.proofs.counting.count.Given as goal

abbrev pub invariant-loop-event : goal.invariant-loop-event
invariant-loop-event l = record {
  so_far : l.counters ≡ counted l.fn.state l.fn.batch (take l.event-index l.event-items);
  few : l.counters.adds ≤ MAX_CPU_SET * l.event-index;
}

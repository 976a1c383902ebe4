use Rattle.std.proofs.Common.{◌≤◌, ◌+◌, ◌-◌}
use Rattle.hp_trace.proofs.FailedLaws.{Seen, left_from}
use Rattle.hp_trace.proofs.failed.failures_before.Given as goal

abbrev pub invariant-loop-line : goal.invariant-loop-line
invariant-loop-line l = record {
  seen : Seen (left_from l.initial.line l.until l.initial.lines) (left_from l.line l.until l.lines) l.first.items l.count;
  few : l.count + 1 ≤ l.line;
}

abbrev pub decreases-loop-line : goal.decreases-loop-line
decreases-loop-line l = l.until - l.line

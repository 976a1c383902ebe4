use Rattle.std.proofs.Common.{◌≡◌, ◌-◌, take}
use Rattle.hp_trace_walk.specs.Tables.{kept}
use Rattle.hp_trace_judge.specs.Walks.{walks_from}
use Rattle.hp_trace_judge.proofs.walks.walks_within.Given as goal

abbrev pub invariant-loop-line : goal.invariant-loop-line
invariant-loop-line l = record {
  said : walks_from l.borders l.place (kept l.table) l.line (take (l.until - l.line) l.lines)
      ≡ walks_from l.borders l.initial.place (kept l.initial.table) l.initial.line (take (l.until - l.initial.line) l.initial.lines);
}

abbrev pub decreases-loop-line : goal.decreases-loop-line
decreases-loop-line l = l.until - l.line

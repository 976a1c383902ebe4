use Rattle.std.proofs.Common.{◌≡◌, ◌-◌, take}
use Rattle.hp_trace_judge.specs.Borders.{after_lines}
use Rattle.hp_trace_judge.proofs.borders.borders_before.Given as goal

abbrev pub invariant-loop-line : goal.invariant-loop-line
invariant-loop-line l = record {
  seen : after_lines l.sight (take (l.until - l.line) l.lines) ≡ after_lines l.initial.sight (take (l.until - l.initial.line) l.initial.lines);
}

abbrev pub decreases-loop-line : goal.decreases-loop-line
decreases-loop-line l = l.until - l.line

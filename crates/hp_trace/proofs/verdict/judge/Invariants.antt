use Rattle.std.proofs.Common.{◌≡◌, ◌<◌, ◌≤◌, ◌+◌, length}
use Rattle.hp_trace.specs.Judged.{judged}
use Rattle.hp_trace.proofs.verdict.judge.Given as goal

abbrev pub invariant-loop-line : goal.invariant-loop-line
invariant-loop-line l = record {
  said : judged l.place l.lines ≡ judged l.initial.place l.initial.lines;
  few : l.place.line + length l.lines ≤ length l.bytes + 2;
  events : l.place.events < l.place.line;
}

abbrev pub decreases-loop-line : goal.decreases-loop-line
decreases-loop-line l = length l.lines

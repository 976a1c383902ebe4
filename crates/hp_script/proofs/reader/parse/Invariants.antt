use Rattle.std.proofs.Common.{◌+◌, ◌≤◌, length}
use Rattle.hp_script.specs.Pieces.{lines}
use Rattle.hp_script.proofs.ReadLoop.{SoFar}
use Rattle.hp_script.proofs.reader.parse.Given as goal

-- the lines so far were taken, and each of them has a byte of its own
abbrev pub invariant-loop-line : goal.invariant-loop-line
invariant-loop-line l = record {
  taken : SoFar l.hooks l.number (lines l.bytes) (lines l.rest) l.before l.draft;
  count : l.number + length l.rest ≤ length l.bytes + 1;
}

abbrev pub decreases-loop-line : goal.decreases-loop-line
decreases-loop-line l = length l.rest

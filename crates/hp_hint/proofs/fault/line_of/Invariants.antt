use Rattle.std.proofs.Common.{◌≡◌, ◌-◌, ◌≤◌, length}
use Rattle.std.specs.Prelude.{slice_get}
use Rattle.hp_script.specs.Pieces.{lines}
use Rattle.hp_hint.proofs.fault.line_of.Given as goal

-- the line is that one of those that are left
abbrev pub invariant-loop-line : goal.invariant-loop-line
invariant-loop-line l = record {
  there : slice_get (lines l.rest) l.left ≡ slice_get (lines l.bytes) (l.number - 1);
  fewer : length l.rest ≤ length l.bytes;
}

abbrev pub decreases-loop-line : goal.decreases-loop-line
decreases-loop-line l = length l.rest

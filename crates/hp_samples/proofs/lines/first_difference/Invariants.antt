use Rattle.std.proofs.Common.{◌≡◌, ◌≤◌, suc, length}
use Rattle.std.specs.Prelude.{drop}
use Rattle.hp_samples.specs.Lines.{first_difference}
use Rattle.hp_samples.proofs.lines.first_difference.Given as goal

abbrev pub invariant-loop-at : goal.invariant-loop-at
invariant-loop-at l =
    (first_difference (drop l.at l.found) (drop l.at l.wanted) l.line ≡ first_difference l.found l.wanted 1)
    × ((l.line ≤ suc l.at) × (l.at ≤ length l.wanted))

use Rattle.std.proofs.Common.{◌≡◌, ◌-◌, take}
use Rattle.hp_script.specs.Pieces.{lines}
use Rattle.hp_hint.specs.Faults.{possible_before}
use Rattle.hp_hint.proofs.Possibles.{possibles}
use Rattle.hp_hint.proofs.context.Context.before.Given as goal

-- what the lines say that are left before that one, after those that were taken
abbrev pub invariant-loop-at : goal.invariant-loop-at
invariant-loop-at l = possibles l.context.possible (take (l.line - l.at) (lines l.rest)) ≡ possible_before l.bytes l.line

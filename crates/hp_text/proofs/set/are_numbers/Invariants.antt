use Rattle.std.proofs.Common.{◌≡◌, length}
use Rattle.std.specs.List.{list_all}
use Rattle.hp_text.specs.Numbers.{is_number}
use Rattle.hp_text.proofs.set.are_numbers.Given as goal

-- whether those that are left are numbers is whether all are
abbrev pub invariant-loop-word : goal.invariant-loop-word
invariant-loop-word g l = list_all is_number (g.W.Words.left l.words) ≡ list_all is_number (g.W.Words.left l.fn.words)

abbrev pub decreases-loop-word : goal.decreases-loop-word
decreases-loop-word g l = length (g.W.Words.left l.words)

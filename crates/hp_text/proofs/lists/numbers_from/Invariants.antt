use Rattle.std.proofs.Common.{◌≡◌, ◌∷◌, length}
use Rattle.hp_text.specs.Numbers.{number}
use Rattle.hp_text.specs.Readings.{each}
use Rattle.hp_text.proofs.ListLoop.{behind, with_next}
use Rattle.hp_text.proofs.lists.numbers_from.Given as goal

-- the numbers so far, in front of what the next word and those behind it say, are what all say
abbrev pub invariant-loop-next : goal.invariant-loop-next
invariant-loop-next g l =
    behind l.numbers (each number (with_next l.next (g.W.Words.left l.words))) ≡ each number (l.first ∷ g.W.Words.left l.fn.words)

abbrev pub decreases-loop-next : goal.decreases-loop-next
decreases-loop-next g l = length (with_next l.next (g.W.Words.left l.words))

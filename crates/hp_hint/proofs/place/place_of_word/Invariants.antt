use Rattle.std.proofs.Common.{◌-◌, length}
use Rattle.hp_hint.proofs.Places.{SoFar}
use Rattle.hp_hint.proofs.place.place_of_word.Given as goal

-- the words so far, and those that are left
abbrev pub invariant-loop-piece : goal.invariant-loop-piece
invariant-loop-piece l = SoFar l.line l.start l.left l.number

abbrev pub decreases-loop-piece : goal.decreases-loop-piece
decreases-loop-piece l = length l.line - l.start

use Rattle.hp_script.proofs.PieceLoops.{Passed}
use Rattle.hp_hint.proofs.piece.split_piece.Given as goal

-- what is passed, in front of the pieces of what is left, are the pieces of all
abbrev pub invariant-loop-i : goal.invariant-loop-i
invariant-loop-i l = Passed l.end l.i l.bytes

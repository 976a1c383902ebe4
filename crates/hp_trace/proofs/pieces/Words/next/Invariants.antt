use Rattle.std.proofs.Common.{◌≡◌, length}
use Rattle.hp_trace.specs.Pieces.{that_say}
use Rattle.hp_trace.proofs.pieces.Words.next.Given as goal

abbrev pub invariant-loop-piece : goal.invariant-loop-piece
invariant-loop-piece l = that_say l.self-inside.pieces ≡ that_say l.initial.self-inside.pieces

abbrev pub decreases-loop-piece : goal.decreases-loop-piece
decreases-loop-piece l = length l.self-inside.pieces

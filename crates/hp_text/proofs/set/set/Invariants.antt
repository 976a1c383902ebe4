use Rattle.std.proofs.Common.{length}
use Rattle.hp_text.proofs.SetLoop.{SoFar}
use Rattle.hp_text.proofs.set.set.Given as goal

abbrev pub invariant-loop-word : goal.invariant-loop-word
invariant-loop-word g l = SoFar l.set l.low (g.W.Words.left l.words) (g.W.Words.left l.fn.words)

abbrev pub decreases-loop-word : goal.decreases-loop-word
decreases-loop-word g l = length (g.W.Words.left l.words)

use Rattle.std.proofs.Common.{◌≡◌, length}
use Rattle.hp_trace.specs.Readers.{bare}
use Rattle.hp_trace.proofs.words.bare.Given as goal

abbrev pub invariant-loop-rest : goal.invariant-loop-rest
invariant-loop-rest l = bare l.rest ≡ bare l.word

abbrev pub decreases-loop-rest : goal.decreases-loop-rest
decreases-loop-rest l = length l.rest

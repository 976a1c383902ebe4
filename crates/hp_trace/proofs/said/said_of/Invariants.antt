use Rattle.std.proofs.Common.{◌≡◌, length, None, false}
use Rattle.hp_trace.specs.Said.{said_from}
use Rattle.hp_trace.proofs.said.said_of.Given as goal

abbrev pub invariant-loop-word : goal.invariant-loop-word
invariant-loop-word l = said_from l.on l.lost l.words ≡ said_from None false l.initial.words

abbrev pub decreases-loop-word : goal.decreases-loop-word
decreases-loop-word l = length l.words

use Rattle.hp_replay.proofs.WordForms.{NoSpaceBefore}
use Rattle.hp_replay.proofs.words.Words.next.Given as goal

abbrev pub invariant-loop-i : goal.invariant-loop-i
invariant-loop-i l = NoSpaceBefore l.i l.bytes

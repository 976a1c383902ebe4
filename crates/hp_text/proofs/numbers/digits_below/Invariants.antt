use Rattle.hp_text.proofs.DigitLoop.{SoFar}
use Rattle.hp_text.proofs.numbers.digits_below.Given as goal

abbrev pub invariant-loop-byte : goal.invariant-loop-byte
invariant-loop-byte l = SoFar l.limit l.byte-index l.value l.digits

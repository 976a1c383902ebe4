use Rattle.std.proofs.Common.{◌^◌}
use Rattle.hp_text.proofs.DigitLoop.{SoFar}
use Rattle.hp_text.proofs.numbers.long_digits.Given as goal

abbrev pub invariant-loop-byte : goal.invariant-loop-byte
invariant-loop-byte l = SoFar (2 ^ 64) l.byte-index l.value l.digits

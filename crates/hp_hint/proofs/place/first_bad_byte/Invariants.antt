use Rattle.std.proofs.Common.{◌≡◌, take, false}
use Rattle.hp_script.specs.Words.{has_bad_byte}
use Rattle.hp_hint.proofs.place.first_bad_byte.Given as goal

-- none of the bytes so far is bad
abbrev pub invariant-loop-start : goal.invariant-loop-start
invariant-loop-start l = has_bad_byte (take l.start l.line) ≡ false

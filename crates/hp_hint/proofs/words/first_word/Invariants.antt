use Rattle.std.proofs.Common.{◌≡◌, drop}
use Rattle.hp_script.specs.Words.{words}
use Rattle.hp_hint.proofs.words.first_word.Given as goal

-- the words of what is left are those of all
abbrev pub invariant-loop-i : goal.invariant-loop-i
invariant-loop-i l = words (drop l.i l.bytes) ≡ words l.bytes

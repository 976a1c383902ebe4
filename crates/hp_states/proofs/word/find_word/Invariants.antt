use Rattle.std.proofs.Common.{◌≡◌}
use Rattle.std.specs.Prelude.{drop}
use Rattle.hp_states.specs.Words.{says}
use Rattle.hp_states.proofs.word.find_word.Given as goal

abbrev pub invariant-loop-row : goal.invariant-loop-row
invariant-loop-row g l = says l.fn.word (drop l.row-index l.fn.rows) ≡ says l.fn.word l.fn.rows

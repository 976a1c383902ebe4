use Rattle.std.proofs.Common.{◌≡◌, drop}
use Rattle.hp_text.specs.Sets.{rise_from}
use Rattle.hp_text.proofs.lists.rise_from.Given as goal

-- those that are left decide
abbrev pub invariant-loop-n : goal.invariant-loop-n
invariant-loop-n l = rise_from l.low l.limit (drop l.n-index l.numbers) ≡ rise_from l.fn.low l.limit l.numbers

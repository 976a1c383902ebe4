use Rattle.std.proofs.Common.{◌≡◌, ◌-◌, ◌≤◌, ◌++◌, map, decimal}
use Rattle.hp_model.specs.Words.{spaced}
use Rattle.hp_text.proofs.SetText.{below}
use Rattle.hp_text.proofs.spell_op.append_set.Given as goal

abbrev pub invariant-loop-cpu : goal.invariant-loop-cpu
invariant-loop-cpu l = record {
  text : l.out.items ≡ l.initial.out.items ++ spaced (map decimal (below l.set l.from));
  within : l.from ≤ 256;
}

abbrev pub decreases-loop-cpu : goal.decreases-loop-cpu
decreases-loop-cpu l = 256 - l.from

use Rattle.std.proofs.Common.{◌≡◌, ◌++◌}
use Rattle.std.specs.List.{flat_map}
use Rattle.hp_model.specs.Lists.{numbers}
use Rattle.hp_print.specs.TallyText.{frozen_word}
use Rattle.hp_print.proofs.summary_lines.append_each_frozen.Given as goal

abbrev pub invariant-loop-cpu : goal.invariant-loop-cpu
invariant-loop-cpu l = l.out.items ≡ l.initial.out.items ++ flat_map (frozen_word l.frozen) (numbers l.cpu)

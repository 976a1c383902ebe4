use Rattle.std.proofs.Common.{◌≡◌, ◌++◌, take}
use Rattle.std.specs.List.{flat_map}
use Rattle.hp_print.specs.TallyText.{key_text}
use Rattle.hp_print.proofs.summary_lines.append_each_key.Given as goal

abbrev pub invariant-loop-count : goal.invariant-loop-count
invariant-loop-count l = l.out.items ≡ l.initial.out.items ++ flat_map key_text (take l.count-index l.counts)

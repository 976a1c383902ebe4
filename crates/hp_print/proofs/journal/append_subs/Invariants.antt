use Rattle.std.proofs.Common.{◌≡◌, ◌++◌, take}
use Rattle.std.specs.List.{flat_map}
use Rattle.hp_model.specs.JournalText.{sub_lines}
use Rattle.hp_print.proofs.journal.append_subs.Given as goal

abbrev pub invariant-loop-sub : goal.invariant-loop-sub
invariant-loop-sub l = l.out.items ≡ l.initial.out.items ++ flat_map sub_lines (take l.sub-index l.subs)

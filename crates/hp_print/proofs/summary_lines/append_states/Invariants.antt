use Rattle.std.proofs.Common.{◌≡◌, ◌++◌}
use Rattle.std.specs.List.{flat_map}
use Rattle.hp_model.specs.Lists.{numbers}
use Rattle.hp_print.specs.TallyText.{sub_text}
use Rattle.hp_print.proofs.summary_lines.append_states.Given as goal

abbrev pub invariant-loop-state : goal.invariant-loop-state
invariant-loop-state l = l.out.items ≡ l.initial.out.items ++ flat_map (sub_text l.head l.states) (numbers l.state)

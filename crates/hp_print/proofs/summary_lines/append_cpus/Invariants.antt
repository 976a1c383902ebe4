use Rattle.std.proofs.Common.{◌≡◌, ◌++◌}
use Rattle.std.specs.List.{flat_map}
use Rattle.hp_model.specs.Lists.{numbers}
use Rattle.hp_print.specs.TallyText.{cpu_text}
use Rattle.hp_print.proofs.summary_lines.append_cpus.Given as goal

abbrev pub invariant-loop-cpu : goal.invariant-loop-cpu
invariant-loop-cpu l = l.out.items ≡ l.initial.out.items ++ flat_map (cpu_text l.head l.processors) (numbers l.cpu)

use Rattle.std.proofs.Common.{◌≡◌, map}
use Rattle.serde_json.specs.View.{view}
use Rattle.hp_model.specs.Lists.{numbers}
use Rattle.hp_print.specs.TallyReport.{cpu_tallied}
use Rattle.hp_print.proofs.report.cpus_value.Given as goal

abbrev pub invariant-loop-cpu : goal.invariant-loop-cpu
invariant-loop-cpu l = map view l.cpus.items ≡ map (cpu_tallied l.head l.processors) (numbers l.cpu)

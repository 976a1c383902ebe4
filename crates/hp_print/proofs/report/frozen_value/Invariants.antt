use Rattle.std.proofs.Common.{◌≡◌, map}
use Rattle.serde_json.specs.View.{view}
use Rattle.hp_print.specs.Report.{whole}
use Rattle.hp_print.specs.TallyReport.{frozen_tallied}
use Rattle.hp_print.proofs.report.frozen_value.Given as goal

abbrev pub invariant-loop-cpu : goal.invariant-loop-cpu
invariant-loop-cpu l = map view l.cpus.items ≡ map whole (frozen_tallied l.cpu-counter l.frozen)

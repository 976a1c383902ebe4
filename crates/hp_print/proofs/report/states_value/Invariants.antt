use Rattle.std.proofs.Common.{◌≡◌, map}
use Rattle.std.specs.List.{flat_map}
use Rattle.serde_json.specs.View.{view}
use Rattle.hp_model.specs.Lists.{numbers}
use Rattle.hp_print.specs.TallyReport.{sub_tallied}
use Rattle.hp_print.proofs.report.states_value.Given as goal

abbrev pub invariant-loop-state : goal.invariant-loop-state
invariant-loop-state l = map view l.values.items ≡ flat_map (sub_tallied l.head l.states) (numbers l.state)

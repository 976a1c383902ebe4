use Rattle.std.proofs.Common.{◌≡◌, map, take}
use Rattle.serde_json.specs.View.{view}
use Rattle.hp_print.specs.Report.{key_pair}
use Rattle.hp_print.specs.TallyText.{keys_of}
use Rattle.hp_print.proofs.report.keys_value.Given as goal

abbrev pub invariant-loop-count : goal.invariant-loop-count
invariant-loop-count l = map view l.keys.items ≡ map key_pair (keys_of (take l.count-index l.counts))

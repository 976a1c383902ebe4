use Rattle.std.proofs.Common.{map, ap, sym, ◌∙◌}
use Rattle.hp_event.proofs.Among.{among_any}
use Rattle.serde_json.specs.View.{view}
use Rattle.hp_print.specs.Report.{whole}
use Rattle.hp_print.proofs.ReportValue.{one_more_frozen, none_more_frozen}
use Rattle.hp_print.proofs.report.frozen_value.Goals.{then-contains+in_ok-push, else-contains}
use Rattle.hp_print.proofs.report.frozen_value.Goals as goal

pub loop-cpu-preserved : goal.loop-cpu-preserved
loop-cpu-preserved c =
    let k = c.loop-cpu.cpu-counter in
    let frozen = c.args.frozen.now in
    let looked = c.contains.ensures.value ∙ among_any k frozen in
    elim c.if-contains.branch [
      | then-contains+in_ok-push w ↦
          one_more_frozen frozen k c.loop-cpu.cpus.items c.if-contains.cpus.items w.from.result
          (sym looked ∙ w.if-contains.true) c.loop-cpu.invariant (ap (λ v. v.items) w.cpus-is ∙ w.in_ok-push.ensures.items) w.from.ensures
      | else-contains w ↦
          ap (λ v. map view v.items) w.cpus-is
          ∙ (c.loop-cpu.invariant ∙ ap (map whole) (none_more_frozen frozen k (sym looked ∙ w.if-contains.false)))
    ]

use Rattle.hp_print.specs.TallyReport.{cpu_tallied}
use Rattle.hp_print.proofs.Loops.{one_number_value}
use Rattle.hp_print.proofs.report.cpus_value.Goals as goal

pub loop-cpu-preserved : goal.loop-cpu-preserved
loop-cpu-preserved c =
    one_number_value (cpu_tallied c.args.head.now c.args.processors.now) c.loop-cpu.cpus.items c.push.new.self.items
    c.in_ok-tallied_cpu_value.field-0 c.loop-cpu.cpu c.loop-cpu.invariant c.in_ok-push.ensures.items
    c.in_ok-tallied_cpu_value.ensures

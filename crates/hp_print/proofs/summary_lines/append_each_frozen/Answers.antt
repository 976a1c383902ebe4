use Rattle.hp_print.specs.TallyText.{frozen_word}
use Rattle.hp_print.proofs.Loops.{one_number_more}
use Rattle.hp_print.proofs.summary_lines.append_each_frozen.Goals as goal

pub loop-cpu-preserved : goal.loop-cpu-preserved
loop-cpu-preserved c =
    one_number_more (frozen_word c.args.frozen.now) c.args.out.now.items c.loop-cpu.out.items
    c.append_if_frozen.new.out.items c.loop-cpu.cpu c.loop-cpu.invariant c.in_ok-append_if_frozen.ensures

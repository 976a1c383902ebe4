use Rattle.hp_model.specs.JournalText.{sub_lines}
use Rattle.hp_print.proofs.Loops.{one_more_text}
use Rattle.hp_print.proofs.journal.append_subs.Goals as goal

pub loop-sub-preserved : goal.loop-sub-preserved
loop-sub-preserved c =
    let sub = c.sub-item.result in
    one_more_text sub_lines c.args.out.now.items c.loop-sub.out.items c.append_sub_lines.new.out.items c.args.subs.now
    c.loop-sub.sub-index sub sub c.sub-item.is c.loop-sub-test.true c.loop-sub.invariant c.in_ok-append_sub_lines.ensures

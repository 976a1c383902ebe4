use Rattle.hp_print.specs.TallyText.{sub_text}
use Rattle.hp_print.proofs.Loops.{one_number_more}
use Rattle.hp_print.proofs.summary_lines.append_states.Goals as goal

pub loop-state-preserved : goal.loop-state-preserved
loop-state-preserved c =
    one_number_more (sub_text c.args.head.now c.args.states.now) c.args.out.now.items c.loop-state.out.items
    c.append_state.new.out.items c.loop-state.state c.loop-state.invariant c.in_ok-append_state.ensures

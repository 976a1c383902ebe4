use Rattle.std.proofs.Common.{None, get_or, refl}
use Rattle.hp_states.specs.declared.plan.Rule.{Rule}
use Rattle.hp_states.specs.declared.dir.Dir.TheVariants.{Up}
use Rattle.hp_model.specs.JournalText.{rule_line}
use Rattle.hp_print.proofs.Loops.{one_more_text}
use Rattle.hp_print.proofs.journal.append_rules.Goals as goal

pub loop-rule-preserved : goal.loop-rule-preserved
loop-rule-preserved c =
    let i = c.loop-rule.rule-index in
    let any : Rule = record { dir = Up; cpu = None; inst = None; nth = None; code = 0 } in
    one_more_text rule_line c.args.out.now.items c.loop-rule.out.items c.append_rule_line.new.out.items c.args.rules.now i any
    (get_or c.args.rules.now i any) refl c.loop-rule-test.true c.loop-rule.invariant c.in_ok-append_rule_line.ensures

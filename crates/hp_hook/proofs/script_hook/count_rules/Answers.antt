-- Each rule counts in its turn.
use Rattle.std.proofs.Common.{true, false, sym, ◌∙◌}
use Rattle.hp_states.specs.declared.limits.TheConstants.{MAX_EVENTS}
use Rattle.hp_hook.proofs.Counting.{none_counted, one_counted, room_there, all_counted}
use Rattle.hp_hook.proofs.script_hook.count_rules.Goals as goal

pub loop-i-init : goal.loop-i-init
loop-i-init c = none_counted c.args.rules.now c.args.seen.now _ c.requires.enough

pub count_site-requires : goal.count_site-requires
count_site-requires c =
    room_there c.args.rules.now c.args.seen.now c.loop-i.seen _ c.loop-i.i c.loop-i.answer MAX_EVENTS c.loop-i-test.true c.requires.enough c.requires.room c.loop-i.invariant

pub loop-i-preserved : goal.loop-i-preserved
loop-i-preserved c =
    one_counted c.args.rules.now c.args.seen.now c.loop-i.seen _ c.loop-i.i c.loop-i.answer _ c.count_site.new.count false
    c.loop-i-test.true c.requires.enough c.loop-i.auto.seen c.count_site.ensures.count
    (sym c.if-count_site.false ∙ c.count_site.ensures.answers) c.loop-i.invariant

pub loop-i-preserved-then-count_site : goal.loop-i-preserved-then-count_site
loop-i-preserved-then-count_site c =
    one_counted c.args.rules.now c.args.seen.now c.loop-i.seen _ c.loop-i.i c.loop-i.answer _ c.count_site.new.count true
    c.loop-i-test.true c.requires.enough c.loop-i.auto.seen c.count_site.ensures.count
    (sym c.if-count_site.true ∙ c.count_site.ensures.answers) c.loop-i.invariant

pub returns-clause-seen : goal.returns-clause-seen
returns-clause-seen c = (all_counted _ _ _ c.loop-i.i _ c.loop-i.answer c.loop-i-test.false c.loop-i.invariant).0

pub returns-clause-answer : goal.returns-clause-answer
returns-clause-answer c = (all_counted _ _ _ c.loop-i.i _ c.loop-i.answer c.loop-i-test.false c.loop-i.invariant).1

use Rattle.std.proofs.Common.{◌-◌}
use Rattle.hp_trace_run.specs.Answers.{reached_text}
use Rattle.hp_trace_run.proofs.Written.{written_as, with_counts, behind_counts, reached_is}
use Rattle.hp_trace_run.proofs.answer.reached_text_of.Goals as goal

pub returns : goal.returns
returns c =
    let p = c.args.place.now in
    let bytes = c.args.bytes.now in
    let w = c.args.walks in
    let named = c.in_ok-first.field-0.first.items in
    let count = c.in_ok-first.field-0.count in
    let kept = c.in_ok-first.ensures in
    written_as c.format-2.result (with_counts w p.events (p.line - 1 - p.events) (behind_counts named count w)) (reached_text bytes p w)
    (reached_is bytes p w named count c.if-events-eq0.false kept.first kept.count) c.format-2.ensures.ok

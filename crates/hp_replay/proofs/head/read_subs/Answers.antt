use Rattle.std.proofs.Common.{Some, ap, ◌∙◌}
use Rattle.std.proofs.lemmas.Result.{err_from_is_err_and}
use Rattle.hp_replay.specs.Stages.{headed}
use Rattle.hp_replay.proofs.HeadReading.{reads_sub, refuses_sub, reads_rule, refuses_rule, reads_events, refuses_head_line, misses_head_line}
use Rattle.hp_replay.proofs.head.read_subs.Goals as goal

pub returns-in_err-line-clause-bad : goal.returns-in_err-line-clause-bad
returns-in_err-line-clause-bad c =
    let p = err_from_is_err_and c.from_residual.result c.from_residual.ensures.1 in
    rw (p.1, p.2) (misses_head_line c.args.version c.args.lines.now c.loop-draft.lines (headed c.args.head) c.loop-draft.draft.head c.loop-draft.draft.last _ c.loop-draft.invariant c.in_err-line.ensures.no_line c.in_err-line.ensures.missing)

pub loop-draft-preserved-in_ok-take_sub-in-Some-Sub : goal.loop-draft-preserved-in_ok-take_sub-in-Some-Sub
loop-draft-preserved-in_ok-take_sub-in-Some-Sub c =
    reads_sub c.args.version c.args.lines.now c.loop-draft.lines c.expect.new.self c.in_ok-line.line.number c.in_ok-line.line.bytes.now (headed c.args.head) c.loop-draft.draft.head c.loop-draft.draft.last c.in-Some-Sub.sub c.in_ok-sub.field-0 _
    c.loop-draft.invariant c.in_ok-line.ensures.line c.in_ok-sub.ensures (c.in-Some-Sub.is ∙ ap (λ x. Some x) c.in-Some-Sub.field-0-is) c.in_ok-take_sub-in-Some-Sub.ensures.ok

pub returns-in_err-take_sub-in-Some-Sub-clause-bad : goal.returns-in_err-take_sub-in-Some-Sub-clause-bad
returns-in_err-take_sub-in-Some-Sub-clause-bad c =
    let p = err_from_is_err_and c.from_residual-in_err-take_sub-in-Some-Sub.result c.from_residual-in_err-take_sub-in-Some-Sub.ensures.1 in
    rw (p.1, p.2) (
    refuses_sub c.args.version c.args.lines.now c.loop-draft.lines c.expect.new.self c.in_ok-line.line.number c.in_ok-line.line.bytes.now (headed c.args.head) c.loop-draft.draft.head c.loop-draft.draft.last c.in-Some-Sub.sub c.in_ok-sub.field-0 _
    c.loop-draft.invariant c.in_ok-line.ensures.line c.in_ok-sub.ensures (c.in-Some-Sub.is ∙ ap (λ x. Some x) c.in-Some-Sub.field-0-is) c.in_err-take_sub-in-Some-Sub.ensures.bad)

pub loop-draft-preserved : goal.loop-draft-preserved
loop-draft-preserved c =
    reads_rule c.args.version c.args.lines.now c.loop-draft.lines c.expect.new.self c.in_ok-line.line.number c.in_ok-line.line.bytes.now (headed c.args.head) c.loop-draft.draft.head c.loop-draft.draft.last c.in-Some-Rule.rule c.in_ok-sub.field-0 _
    c.loop-draft.invariant c.in_ok-line.ensures.line c.in_ok-sub.ensures (c.in-Some-Rule.is ∙ ap (λ x. Some x) c.in-Some-Rule.field-0-is) c.in_ok-take_rule-in-Some-Rule.ensures.ok

pub returns-in_err-take_rule-in-Some-Rule-clause-bad : goal.returns-in_err-take_rule-in-Some-Rule-clause-bad
returns-in_err-take_rule-in-Some-Rule-clause-bad c =
    let p = err_from_is_err_and c.from_residual-in_err-take_rule-in-Some-Rule.result c.from_residual-in_err-take_rule-in-Some-Rule.ensures.1 in
    rw (p.1, p.2) (
    refuses_rule c.args.version c.args.lines.now c.loop-draft.lines c.expect.new.self c.in_ok-line.line.number c.in_ok-line.line.bytes.now (headed c.args.head) c.loop-draft.draft.head c.loop-draft.draft.last c.in-Some-Rule.rule c.in_ok-sub.field-0 _
    c.loop-draft.invariant c.in_ok-line.ensures.line c.in_ok-sub.ensures (c.in-Some-Rule.is ∙ ap (λ x. Some x) c.in-Some-Rule.field-0-is) c.in_err-take_rule-in-Some-Rule.ensures.bad)

pub returns-in-Some-Events-clause-ok : goal.returns-in-Some-Events-clause-ok
returns-in-Some-Events-clause-ok c =
    reads_events c.args.version c.args.lines.now c.loop-draft.lines c.expect.new.self c.in_ok-line.line.number c.in_ok-line.line.bytes.now (headed c.args.head) c.loop-draft.draft.head c.loop-draft.draft.last _ c.in_ok-sub.field-0
    c.loop-draft.invariant c.in_ok-line.ensures.line c.in_ok-sub.ensures (c.in-Some-Events.is ∙ ap (λ x. Some x) c.in-Some-Events.field-0-is) c.in_ok-finish-in-Some-Events.ensures

pub returns-in-None-clause-bad : goal.returns-in-None-clause-bad
returns-in-None-clause-bad c =
    refuses_head_line c.args.version c.args.lines.now c.loop-draft.lines c.expect.new.self c.in_ok-line.line.number c.in_ok-line.line.bytes.now (headed c.args.head) c.loop-draft.draft.head c.loop-draft.draft.last c.in_ok-sub.field-0 c.bad.result
    c.loop-draft.invariant c.in_ok-line.ensures.line c.in_ok-sub.ensures c.in-None.is c.bad.ensures

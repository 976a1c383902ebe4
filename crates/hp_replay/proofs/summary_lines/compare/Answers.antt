use Rattle.std.proofs.Common.{◌≡◌, ◌∙◌, ◌∷◌, sym, length}
use Rattle.std.specs.Str.{bytes_eq}
use Rattle.std.proofs.lemmas.Bool.{eqb-true, not-true, not-false}
use Rattle.std.proofs.lemmas.Result.{err_from_is_err_and}
use Rattle.hp_replay.specs.InputLines.{lines_of}
use Rattle.hp_replay.specs.Stages.{among_summary}
use Rattle.hp_replay.proofs.LineForms.{nothing_left}
use Rattle.hp_replay.proofs.SummaryReading.{reads_line, refuses_line, misses_line, refuses_more, ends_here}
use Rattle.hp_replay.proofs.summary_lines.compare.Goals as goal

pub returns-in_err-line-clause-bad : goal.returns-in_err-line-clause-bad
returns-in_err-line-clause-bad c =
    let p = err_from_is_err_and c.from_residual.result c.from_residual.ensures.1 in
    rw (p.1, p.2) (λ v head events.
    misses_line v c.args.lines.now c.loop-rest.lines (among_summary head events (lines_of c.args.text.now)) head events _ _ _ _
    (c.loop-rest.invariant v head events) c.line_end.ensures.lines c.in_err-line.ensures.no_line c.in_err-line.ensures.missing)

pub returns-then-ne-clause-bad : goal.returns-then-ne-clause-bad
returns-then-ne-clause-bad c = λ v head events.
    let parts : lines_of c.loop-rest.rest.now ≡ c.split_at.result.0.now ∷ lines_of c.split_at.result.1.now = rw (c.split_at.ensures.front, c.split_at.ensures.back) c.line_end.ensures.lines in
    let other = not-true (bytes_eq c.in_ok-line.line.bytes.now c.split_at.result.0.now) (sym c.ne.ensures ∙ c.if-ne.true) in
    refuses_line v c.args.lines.now c.loop-rest.lines c.expect.new.self c.in_ok-line.line.number c.in_ok-line.line.bytes.now (among_summary head events (lines_of c.args.text.now)) head events _ c.split_at.result.0.now (lines_of c.split_at.result.1.now) c.bad.result
    (c.loop-rest.invariant v head events) c.in_ok-line.ensures.line parts other c.bad.ensures

pub loop-rest-preserved : goal.loop-rest-preserved
loop-rest-preserved c = λ v head events.
    let parts : lines_of c.loop-rest.rest.now ≡ c.split_at.result.0.now ∷ lines_of c.split_at.result.1.now = rw (c.split_at.ensures.front, c.split_at.ensures.back) c.line_end.ensures.lines in
    let same = not-false (bytes_eq c.in_ok-line.line.bytes.now c.split_at.result.0.now) (sym c.ne.ensures ∙ c.if-ne.false) in
    reads_line v c.args.lines.now c.loop-rest.lines c.expect.new.self c.in_ok-line.line.number c.in_ok-line.line.bytes.now (among_summary head events (lines_of c.args.text.now)) head events _ c.split_at.result.0.now (lines_of c.split_at.result.1.now)
    (c.loop-rest.invariant v head events) c.in_ok-line.ensures.line parts same

pub returns-in-None-clause-same : goal.returns-in-None-clause-same
returns-in-None-clause-same c = λ v head events.
    let none = nothing_left c.loop-rest.rest.now (eqb-true (length c.loop-rest.rest.now) 0 (sym c.is_empty.ensures ∙ c.loop-rest-test.false)) in
    ends_here v c.args.lines.now c.loop-rest.lines (among_summary head events (lines_of c.args.text.now)) head events _ (c.loop-rest.invariant v head events) none c.in-None.ensures.line

pub returns-in-Some-clause-bad : goal.returns-in-Some-clause-bad
returns-in-Some-clause-bad c = λ v head events.
    let none = nothing_left c.loop-rest.rest.now (eqb-true (length c.loop-rest.rest.now) 0 (sym c.is_empty.ensures ∙ c.loop-rest-test.false)) in
    refuses_more v c.args.lines.now c.loop-rest.lines c.next.new.self c.in-Some.line.number c.in-Some.line.bytes.now (among_summary head events (lines_of c.args.text.now)) head events _ c.bad-in-Some.result
    (c.loop-rest.invariant v head events) c.in-Some.ensures.line none c.bad-in-Some.ensures

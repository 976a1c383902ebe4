use Rattle.std.proofs.Common.{◌∙◌}
use Rattle.std.proofs.lemmas.Result.{err_from_is_err_and, on_ok_weaker, IfErr-weaker}
use Rattle.hp_replay.specs.Stages.{whole}
use Rattle.hp_replay.proofs.EventReading.{stage_of, reads_event, refuses_event, reads_end, refuses_end, misses_event}
use Rattle.hp_replay.proofs.events.take_events.Goals as goal

pub returns-in_err-line-clause-bad : goal.returns-in_err-line-clause-bad
returns-in_err-line-clause-bad c =
    let v = c.args.taking.now.version in
    let p = err_from_is_err_and c.from_residual.result c.from_residual.ensures.1 in
    rw (p.1, p.2) (misses_event v c.args.lines.now c.loop-line.lines (stage_of c.args.taking.now.law) c.loop-line.taking.law _ c.loop-line.invariant.gone c.in_err-line.ensures.no_line c.in_err-line.ensures.missing)

pub loop-line-preserved : goal.loop-line-preserved
loop-line-preserved c =
    let v = c.args.taking.now.version in
    let same = c.loop-line.invariant.version in
    let is = c.in_ok-take-in-Some.ensures in
    let said = rw same at c.in-Some.ensures in
    let right = rw same at is.right in
    record {
      gone =
          reads_event v c.args.lines.now c.loop-line.lines c.expect.new.self _ _ (stage_of c.args.taking.now.law) c.loop-line.taking.law c.take.new.self.law c.in-Some.said
          c.loop-line.invariant.gone c.in_ok-line.ensures.line said is.stands right is.taken;
      numbered = is.numbered;
      version = is.version ∙ same;
    }

pub returns-in_err-take-in-Some-clause-bad : goal.returns-in_err-take-in-Some-clause-bad
returns-in_err-take-in-Some-clause-bad c =
    let v = c.args.taking.now.version in
    let same = c.loop-line.invariant.version in
    let said = rw same at c.in-Some.ensures in
    let bad = rw same at c.in_err-take-in-Some.ensures.bad in
    let p = err_from_is_err_and c.from_residual-in_err-take-in-Some.result c.from_residual-in_err-take-in-Some.ensures.1 in
    rw (p.1, p.2) (refuses_event v c.args.lines.now c.loop-line.lines c.expect.new.self c.in_ok-line.line.number _ (stage_of c.args.taking.now.law) c.loop-line.taking.law c.in-Some.said _ c.loop-line.invariant.gone c.in_ok-line.ensures.line said bad)

pub returns-in-None-clause-ok : goal.returns-in-None-clause-ok
returns-in-None-clause-ok c =
    let v = c.args.taking.now.version in
    let none = rw c.loop-line.invariant.version at c.in-None.ensures in
    on_ok_weaker c.take_end.result
    (reads_end v c.args.lines.now c.loop-line.lines c.expect.new.self c.in_ok-line.line.number c.in_ok-line.line.bytes.now (stage_of c.args.taking.now.law) c.loop-line.taking.law (whole c.loop-line.taking.law.head c.loop-line.taking.law.events) c.loop-line.invariant.gone c.in_ok-line.ensures.line none)
    c.take_end.ensures.ok

pub returns-in-None-clause-bad : goal.returns-in-None-clause-bad
returns-in-None-clause-bad c =
    let v = c.args.taking.now.version in
    let none = rw c.loop-line.invariant.version at c.in-None.ensures in
    IfErr-weaker c.take_end.result _ _
    (λ x. refuses_end v c.args.lines.now c.loop-line.lines c.expect.new.self c.in_ok-line.line.number c.in_ok-line.line.bytes.now (stage_of c.args.taking.now.law) c.loop-line.taking.law x c.loop-line.invariant.gone c.in_ok-line.ensures.line none)
    c.take_end.ensures.bad

use Rattle.hp_trace_judge.proofs.Lines.{sight_on}
use Rattle.hp_trace_judge.proofs.borders.borders_before.Goals as goal

pub loop-line-preserved : goal.loop-line-preserved
loop-line-preserved c = record {
  seen =
      sight_on c.loop-line.sight c.after-sight.result _ c.said_of.result c.loop-line.line c.args.until c.loop-line.lines c.in-Some.text.now
      c.next.new.self c.loop-line-test.true c.in-Some.ensures.piece c.next.ensures.rest c.said_of.ensures c.after-sight.ensures
      c.loop-line.invariant.seen;
}

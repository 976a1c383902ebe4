use Rattle.std.proofs.Common.{sym, ◌∙◌}
use Rattle.hp_trace_walk.specs.Tables.{kept}
use Rattle.hp_trace_judge.proofs.Lines.{walk_on, walk_stops, begins}
use Rattle.hp_trace_judge.proofs.walks.walks_within.Goals as goal

pub loop-line-preserved : goal.loop-line-preserved
loop-line-preserved c = record {
  said =
      walk_on c.args.borders c.loop-line.place c.in-Ok.next (kept c.loop-line.table) (kept c.read.new.table) _ c.said_of.result
      c.loop-line.line c.args.until c.loop-line.lines c.in-Some.text.now c.next.new.self c.loop-line-test.true
      c.in-Some.ensures.piece c.next.ensures.rest c.said_of.ensures (sym c.read.ensures.result ∙ c.in-Ok.is)
      c.read.ensures.table c.loop-line.invariant.said;
}

pub returns-in-Err : goal.returns-in-Err
returns-in-Err c =
    let stops =
    walk_stops c.args.borders c.loop-line.place (kept c.loop-line.table) c.in-Err.halt c.said_of.result c.loop-line.line c.args.until
    c.loop-line.lines c.in-Some.text.now c.next.new.self c.loop-line-test.true c.in-Some.ensures.piece c.next.ensures.rest
    c.said_of.ensures (sym c.read.ensures.result ∙ c.in-Err.is) in
    let first = begins c.args.borders _ _ c.args.until _ c.args.bytes.now c.nowhere-place.ensures c.requires c.of-lines.ensures in
    c.halted.ensures ∙ (sym stops ∙ (c.loop-line.invariant.said ∙ first))

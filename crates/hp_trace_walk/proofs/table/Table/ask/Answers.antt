use Rattle.std.proofs.Common.{◌∙◌}
use Rattle.hp_trace_walk.specs.Tables.{kept}
use Rattle.hp_trace_walk.proofs.AskLaws.{more_asked}
use Rattle.hp_trace_walk.proofs.table.Table.ask.Goals as goal

pub loop-state-preserved : goal.loop-state-preserved
loop-state-preserved c = record {
  left =
      more_asked
      c.args.borders
      c.args.ask.now
      c.args.ask.now.below
      c.loop-state.state
      (kept c.loop-state.self)
      (kept c.ask_if.new.self)
      c.loop-state-test.true
      c.ask_if.ensures ∙ c.loop-state.invariant.left;
}

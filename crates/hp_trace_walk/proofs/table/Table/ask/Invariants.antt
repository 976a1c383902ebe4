use Rattle.std.proofs.Common.{◌≡◌, ◌-◌}
use Rattle.hp_trace_walk.specs.Tables.{kept, asked_from}
use Rattle.hp_trace_walk.proofs.table.Table.ask.Given as goal

abbrev pub invariant-loop-state : goal.invariant-loop-state
invariant-loop-state l = record {
  left : asked_from l.borders l.ask (l.ask.below - l.state) l.state (kept l.self)
      ≡ asked_from l.borders l.ask (l.ask.below - l.initial.state) l.initial.state (kept l.initial.self);
}

abbrev pub decreases-loop-state : goal.decreases-loop-state
decreases-loop-state l = l.ask.below - l.state

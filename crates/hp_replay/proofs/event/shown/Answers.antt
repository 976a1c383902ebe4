use Rattle.std.proofs.Common.{rules, arith}
use Rattle.std.specs.Prelude.{codes}
use Rattle.hp_replay.specs.EventAt.{shown_rows}
use Rattle.hp_replay.proofs.Rows.{at_row}
use Rattle.hp_replay.proofs.event.shown.Goals as goal

pub returns-in-state : goal.returns-in-state
returns-in-state c = at_row (shown_rows c.args.seat c.args.number) c.args.words.now _ c.in_ok-next.field-0.now (codes "state") c.shown_of-in-state.result c.in_ok-next.ensures.word c.in_ok-next.ensures.rest (omega (arith, c.in-state.len_at_least, c.in-state.len_below)) (search rules) c.shown_of-in-state.ensures

pub returns-in-target : goal.returns-in-target
returns-in-target c = at_row (shown_rows c.args.seat c.args.number) c.args.words.now _ c.in_ok-next.field-0.now (codes "target") c.shown_of-in-target.result c.in_ok-next.ensures.word c.in_ok-next.ensures.rest (omega (arith, c.in-target.len_at_least, c.in-target.len_below)) (search rules) c.shown_of-in-target.ensures

pub returns-in-fail : goal.returns-in-fail
returns-in-fail c = at_row (shown_rows c.args.seat c.args.number) c.args.words.now _ c.in_ok-next.field-0.now (codes "fail") c.shown_of.result c.in_ok-next.ensures.word c.in_ok-next.ensures.rest (omega (arith, c.in-fail.len_at_least, c.in-fail.len_below)) (search rules) c.shown_of.ensures

pub returns-in-states : goal.returns-in-states
returns-in-states c = at_row (shown_rows c.args.seat c.args.number) c.args.words.now _ c.in_ok-next.field-0.now (codes "states") c.shown_states.result c.in_ok-next.ensures.word c.in_ok-next.ensures.rest (omega (arith, c.in-states.len_at_least, c.in-states.len_below)) (search rules) c.shown_states.ensures

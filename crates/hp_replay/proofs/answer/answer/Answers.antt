use Rattle.std.proofs.Common.{rules, arith}
use Rattle.std.specs.Prelude.{codes}
use Rattle.hp_replay.specs.EventAt.{answer_rows, answer}
use Rattle.hp_replay.proofs.Rows.{at_row}
use Rattle.hp_replay.proofs.answer.answer.Goals as goal

pub returns-in-refused : goal.returns-in-refused
unfolding answer
returns-in-refused c = at_row answer_rows c.args.words.now _ c.in_ok-next.field-0.now (codes "refused") c.refused.result c.in_ok-next.ensures.word c.in_ok-next.ensures.rest (omega (arith, c.in-refused.len_at_least, c.in-refused.len_below)) (search rules) c.refused.ensures

pub returns-in-fault : goal.returns-in-fault
unfolding answer
returns-in-fault c = at_row answer_rows c.args.words.now _ c.in_ok-next.field-0.now (codes "fault") c.fault.result c.in_ok-next.ensures.word c.in_ok-next.ensures.rest (omega (arith, c.in-fault.len_at_least, c.in-fault.len_below)) (search rules) c.fault.ensures

pub returns-in-stuck : goal.returns-in-stuck
unfolding answer
returns-in-stuck c = at_row answer_rows c.args.words.now _ c.in_ok-next.field-0.now (codes "stuck") c.stuck.result c.in_ok-next.ensures.word c.in_ok-next.ensures.rest (omega (arith, c.in-stuck.len_at_least, c.in-stuck.len_below)) (search rules) c.stuck.ensures

use Rattle.std.proofs.Common.{rules, arith}
use Rattle.std.specs.Prelude.{codes}
use Rattle.hp_replay.specs.EventAt.{how_rows, how}
use Rattle.hp_replay.proofs.Rows.{at_row}
use Rattle.hp_replay.proofs.answer.any_how.Goals as goal

pub returns-in-injected : goal.returns-in-injected
unfolding how
returns-in-injected c = at_row how_rows c.args.words.now _ c.in_ok-next.field-0.now (codes "injected") c.done-in-injected.result c.in_ok-next.ensures.word c.in_ok-next.ensures.rest (omega (arith, c.in-injected.len_at_least, c.in-injected.len_below)) (search rules) c.done-in-injected.ensures

pub returns-in-empty : goal.returns-in-empty
unfolding how
returns-in-empty c = at_row how_rows c.args.words.now _ c.in_ok-next.field-0.now (codes "empty") c.done-in-empty.result c.in_ok-next.ensures.word c.in_ok-next.ensures.rest (omega (arith, c.in-empty.len_at_least, c.in-empty.len_below)) (search rules) c.done-in-empty.ensures

pub returns-in-presumed : goal.returns-in-presumed
unfolding how
returns-in-presumed c = at_row how_rows c.args.words.now _ c.in_ok-next.field-0.now (codes "presumed") c.done-in-presumed.result c.in_ok-next.ensures.word c.in_ok-next.ensures.rest (omega (arith, c.in-presumed.len_at_least, c.in-presumed.len_below)) (search rules) c.done-in-presumed.ensures

pub returns-in-overruled : goal.returns-in-overruled
unfolding how
returns-in-overruled c = at_row how_rows c.args.words.now _ c.in_ok-next.field-0.now (codes "overruled") c.overruled.result c.in_ok-next.ensures.word c.in_ok-next.ensures.rest (omega (arith, c.in-overruled.len_at_least, c.in-overruled.len_below)) (search rules) c.overruled.ensures

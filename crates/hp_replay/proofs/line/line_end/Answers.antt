use Rattle.std.proofs.Common.{length}
use Rattle.std.proofs.lemmas.Bool.{eqb-true}
use Rattle.hp_replay.proofs.LineForms.{newline_first, front_is_line, front_line, all_is_line, all_line}
use Rattle.hp_replay.proofs.line.line_end.Goals as goal

pub returns-in-Some-clause-line : goal.returns-in-Some-clause-line
returns-in-Some-clause-line c = front_is_line c.args.bytes.now c.in-Some.at (newline_first c.args.bytes.now c.in-Some.at c.in-Some.ensures.0.before)

pub returns-in-Some-clause-lines : goal.returns-in-Some-clause-lines
returns-in-Some-clause-lines c = front_line c.args.bytes.now c.in-Some.at c.in-Some.ensures.0.high (eqb-true _ _ c.in-Some.ensures.1) (newline_first c.args.bytes.now c.in-Some.at c.in-Some.ensures.0.before)

pub returns-in-None-clause-line : goal.returns-in-None-clause-line
returns-in-None-clause-line c = all_is_line c.args.bytes.now (newline_first c.args.bytes.now (length c.args.bytes.now) c.in-None.ensures)

pub returns-in-None-clause-lines : goal.returns-in-None-clause-lines
returns-in-None-clause-lines c = all_line c.args.bytes.now c.requires (newline_first c.args.bytes.now (length c.args.bytes.now) c.in-None.ensures)

use Rattle.std.proofs.Common.{◌∙◌, ap, Some}
use Rattle.hp_replay.proofs.LineForms.{nothing_said, ended_words, unended_words}
use Rattle.hp_replay.proofs.line.Line.words.Goals as goal

pub returns-in_err-last : goal.returns-in_err-last
returns-in_err-last c = c.from_residual.ensures ∙ nothing_said c.args.self.now.bytes.now c.in_err-last.ensures.cases

pub returns-then-last-eq10 : goal.returns-then-last-eq10
returns-then-last-eq10 c = ap (λ w. Some w) c.of.ensures ∙ ended_words c.args.self.now.bytes.now c.in_ok-last.text.now c.in_ok-last.last.now c.in_ok-last.ensures.cases.0 c.if-last-eq10.true c.args.self.now.one

pub returns-else-last-eq10 : goal.returns-else-last-eq10
returns-else-last-eq10 c = unended_words c.args.self.now.bytes.now c.in_ok-last.text.now c.in_ok-last.last.now c.in_ok-last.ensures.cases.0 c.if-last-eq10.false c.args.self.now.one

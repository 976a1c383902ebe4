-- The first rule that answers decides.
use Rattle.std.proofs.Common.{true, false, sym, ◌∙◌}
use Rattle.hp_hook.proofs.Answering.{first_answers, none_answers}
use Rattle.hp_hook.proofs.script_hook.first_answer.Goals as goal

pub returns-then-answers_next : goal.returns-then-answers_next
returns-then-answers_next c =
    sym (first_answers c.args.rules.now c.args.seen.now _ c.loop-i.i _ true c.loop-i-test.true c.requires
    (sym c.if-answers_next.true ∙ c.answers_next.ensures) c.loop-i.invariant)

pub loop-i-preserved : goal.loop-i-preserved
loop-i-preserved c =
    first_answers c.args.rules.now c.args.seen.now _ c.loop-i.i _ false c.loop-i-test.true c.requires
    (sym c.if-answers_next.false ∙ c.answers_next.ensures) c.loop-i.invariant

pub returns : goal.returns
returns c = sym (c.loop-i.invariant ∙ none_answers _ _ _ c.loop-i.i c.loop-i-test.false)

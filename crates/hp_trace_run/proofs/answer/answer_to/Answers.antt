use Rattle.std.proofs.Common.{string_bytes, sym, subst}
use Rattle.hp_trace_run.specs.declared.status.TheConstants.{NO_TRACE}
use Rattle.hp_trace_run.specs.Answers.{IsAnswerTo}
use Rattle.hp_trace_run.proofs.Bytes.{short_answer, long_answer}
use Rattle.hp_trace_run.proofs.answer.answer_to.Goals as goal

pub returns-then-bytes : goal.returns-then-bytes
returns-then-bytes c =
    subst (λ t. IsAnswerTo c.args.bytes.now t NO_TRACE) (sym c.in_ok-format.ensures.ok) (long_answer c.args.bytes.now c.if-bytes.true)

pub returns : goal.returns
returns c =
    short_answer c.args.bytes.now (string_bytes c.in_ok-text_of.field-0) c.status_of.result c.judge-judged.result c.in_ok-walks.walks
    c.if-bytes.false c.judge-judged.ensures.judged c.in_ok-walks.ensures c.in_ok-text_of.ensures c.status_of.ensures

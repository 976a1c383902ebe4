-- What was read is answered, or it is named what failed; and that is exact.
use Rattle.std.proofs.Common.{[], string_bytes, refl}
use Rattle.hp_trace_run.specs.declared.status.TheConstants.{BAD_WORDS}
use Rattle.hp_trace_run.specs.Texts.{usage_line}
use Rattle.hp_trace_run.specs.Calls.{call}
use Rattle.hp_trace_run.proofs.Endings.{ends_written, some_words, no_words, ends_read, ends_exactly, ends_small}
use Rattle.hp_trace_run.proofs.top.trace_main.Goals as goal

pub returns-then-not-is_empty-clause-ends : goal.returns-then-not-is_empty-clause-ends
returns-then-not-is_empty-clause-ends g c =
    let u = some_words c.args.words.now c.is_empty.result c.is_empty.ensures c.if-not-is_empty.true in
    ends_written
    (call g.S.Source g.K.Sink c.args.words.now c.args.source.now c.args.source.now c.args.sink.now c.write_answer.new.sink) [] usage_line BAD_WORDS c.write_answer.result (u.reads (g.S.Source.left c.args.source.now)) u.text u.status refl
    c.write_answer.ensures

pub returns-in-Ok-clause-ends : goal.returns-in-Ok-clause-ends
returns-in-Ok-clause-ends g c =
    let none = no_words c.args.words.now c.is_empty.result c.is_empty.ensures c.if-not-is_empty.false in
    ends_read _ (string_bytes c.in-Ok.answer.text) c.as_bytes.result.now c.in-Ok.answer.status c.write_answer-in-Ok.result none
    c.in-Ok.ensures.read c.as_bytes.ensures.value c.in-Ok.ensures.faults c.write_answer-in-Ok.ensures

pub returns-then-not-is_empty-clause-exact : goal.returns-then-not-is_empty-clause-exact
returns-then-not-is_empty-clause-exact g c = ends_exactly _ _ (returns-then-not-is_empty-clause-ends g c)

pub returns-in-Ok-clause-exact : goal.returns-in-Ok-clause-exact
returns-in-Ok-clause-exact g c = ends_exactly _ _ (returns-in-Ok-clause-ends g c)

pub returns-then-not-is_empty-clause-statuses : goal.returns-then-not-is_empty-clause-statuses
returns-then-not-is_empty-clause-statuses g c = ends_small _ _ (returns-then-not-is_empty-clause-ends g c)

pub returns-in-Ok-clause-statuses : goal.returns-in-Ok-clause-statuses
returns-in-Ok-clause-statuses g c = ends_small _ _ (returns-in-Ok-clause-ends g c)

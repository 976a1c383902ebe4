use Rattle.std.proofs.Common.{string_bytes}
use Rattle.hp_trace_run.specs.Texts.{lost_lines, no_form_lines}
use Rattle.hp_trace_run.specs.Answers.{end_text}
use Rattle.hp_trace_run.proofs.Written.{written_as, lost_is, no_form_is}
use Rattle.hp_trace_run.proofs.answer.end_text_of.Goals as goal

pub returns-in_ok-reached-in-Lost : goal.returns-in_ok-reached-in-Lost
returns-in_ok-reached-in-Lost c =
    let j = c.args.judged.now in
    let bytes = c.args.bytes.now in
    let w = c.args.walks in
    let reached = string_bytes c.in_ok-reached-in-Lost.reached in
    written_as c.format.result (lost_lines j.place.line reached) (end_text bytes j.place w j.end)
    (lost_is bytes reached j.place w j.end c.in-Lost.is c.in_ok-reached-in-Lost.ensures) c.format.ensures.ok

pub returns-in_ok-reached-in-NoForm : goal.returns-in_ok-reached-in-NoForm
returns-in_ok-reached-in-NoForm c =
    let j = c.args.judged.now in
    let bytes = c.args.bytes.now in
    let w = c.args.walks in
    let reached = string_bytes c.in_ok-reached-in-NoForm.reached in
    written_as c.format-in-NoForm.result (no_form_lines j.place.line reached) (end_text bytes j.place w j.end)
    (no_form_is bytes reached j.place w j.end c.in-NoForm.is c.in_ok-reached-in-NoForm.ensures) c.format-in-NoForm.ensures.ok

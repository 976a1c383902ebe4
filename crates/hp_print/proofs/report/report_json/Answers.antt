use Rattle.std.proofs.Common.{◌≡◌, [], ◌∷◌, ◌++◌, ap, subst, ◌∙◌, arith}
use Rattle.serde_json.specs.Data.{Data, depth}
use Rattle.serde_json.specs.View.{view}
use Rattle.serde_json.specs.Written.{has_float, compact_text}
use Rattle.hp_print.specs.Report.{report, report_text}
use Rattle.hp_print.specs.ReportLaws.{IsLineOf}
use Rattle.hp_print.specs.Tallies.{IsTally}
use Rattle.hp_print.proofs.ReportShape.{report_fits}
use Rattle.hp_print.proofs.ReportValue.{report_same}
use Rattle.hp_print.proofs.report.report_json.Goals as goal

pub returns-clause-text : goal.returns-clause-text
unfolding report_text
returns-clause-text c = λ is.
    let head = c.args.journal.now.head in
    let events = c.args.journal.now.events in
    let tallied_is : IsTally head events c.in_ok-tally.tally = rw (← c.head.ensures, ← c.events.ensures) c.in_ok-tally.ensures in
    let made = c.in_ok-value.ensures in
    let same : view c.in_ok-value.value ≡ report head events =
    (rw (c.head-2.ensures, c.events-2.ensures) at made) ∙ report_same head events c.in_ok-tally.tally is tallied_is in
    c.in_ok-line_of.ensures.text (ap has_float same ∙ (report_fits head events).0)
    ∙ ap (λ (d : Data). compact_text d ++ 10 ∷ []) same

pub returns-clause-line : goal.returns-clause-line
returns-clause-line c = λ is.
    let head = c.args.journal.now.head in
    let events = c.args.journal.now.events in
    let tallied_is : IsTally head events c.in_ok-tally.tally = rw (← c.head.ensures, ← c.events.ensures) c.in_ok-tally.ensures in
    let made = c.in_ok-value.ensures in
    let same : view c.in_ok-value.value ≡ report head events =
    (rw (c.head-2.ensures, c.events-2.ensures) at made) ∙ report_same head events c.in_ok-tally.tally is tallied_is in
    let deep = (report_fits head events).1 in
    subst (λ (d : Data). IsLineOf d c.in_ok-line_of.field-0.items) same
    (c.in_ok-line_of.ensures.line (omega (arith, deep, ap depth same)))

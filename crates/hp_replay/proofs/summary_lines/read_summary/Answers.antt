use Rattle.std.proofs.Common.{◌≡◌, ◌∙◌, []}
use Rattle.std.proofs.lemmas.Result.{err_from_is_err_and}
use Rattle.hp_replay.specs.Judged.{accepted}
use Rattle.hp_replay.proofs.SummaryReading.{from_whole, refused_whole}
use Rattle.hp_replay.proofs.summary_lines.read_summary.Goals as goal

pub returns-clause-ok : goal.returns-clause-ok
returns-clause-ok c = λ v.
    let head = c.args.journal.now.head in
    let events = c.args.journal.now.events in
    let some : c.args.lines.now.lines ≡ [] → ⊥ = λ e. let t = c.is_done.ensures.1 e in absurd cc in
    from_whole v head events c.as_slice.result.now c.args.lines.now.number c.args.lines.now.lines (accepted head events) some (c.as_slice.ensures.value ∙ c.in_ok-text.ensures) (c.in_ok-compare.ensures.same v head events)

pub returns-in_err-compare-clause-bad : goal.returns-in_err-compare-clause-bad
returns-in_err-compare-clause-bad c =
    let p = err_from_is_err_and c.from_residual-in_err-compare.result c.from_residual-in_err-compare.ensures.1 in
    let head = c.args.journal.now.head in
    let events = c.args.journal.now.events in
    let some : c.args.lines.now.lines ≡ [] → ⊥ = λ e. let t = c.is_done.ensures.1 e in absurd cc in
    rw (p.1, p.2) (λ v. refused_whole v head events c.as_slice.result.now c.args.lines.now _ some (c.as_slice.ensures.value ∙ c.in_ok-text.ensures) (c.in_err-compare.ensures.bad v head events))

use Rattle.std.proofs.Common.{is_some, cond, Some, ap, ◌∙◌}
use Rattle.hp_called.specs.declared.rows.RowKey.{RowKey}
use Rattle.hp_called.specs.Rows.{row_key, same, same_row, row, is_in}
use Rattle.hp_called.proofs.RowLemmas.{some_or, in_empty}
use Rattle.hp_called.proofs.rows.Rows.insert.Goals as goal

pub returns-clause-rows : goal.returns-clause-rows
returns-clause-rows c = λ k.
    let o = row c.args.self.now k in
    ap is_some (c.in-Ok.ensures.updates.0 (row_key k))
    ∙ (ap (λ (q : RowKey). is_some (cond (same_row q (row_key k)) (Some c.none.result) o)) c.of.ensures ∙ some_or (same c.args.key k) c.none.result o)

pub returns-clause-sets : goal.returns-clause-sets
returns-clause-sets c = λ k d.
    let o = row c.args.self.now k in
    ap (λ x. is_in x d) (c.in-Ok.ensures.updates.0 (row_key k))
    ∙ (ap (λ (q : RowKey). is_in (cond (same_row q (row_key k)) (Some c.none.result) o) d) c.of.ensures
    ∙ in_empty (same c.args.key k) c.none.result o d (c.none.ensures d))

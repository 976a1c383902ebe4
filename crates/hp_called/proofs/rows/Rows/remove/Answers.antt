use Rattle.std.proofs.Common.{is_some, cond, None, ap, ◌∙◌}
use Rattle.hp_called.specs.declared.rows.RowKey.{RowKey}
use Rattle.hp_called.specs.Rows.{row_key, same, same_row, row, is_in}
use Rattle.hp_called.proofs.RowLemmas.{none_and, in_none}
use Rattle.hp_called.proofs.rows.Rows.remove.Goals as goal

pub returns-clause-rows : goal.returns-clause-rows
returns-clause-rows c = λ k. let u = c.swap_remove.ensures.updates.0 (row_key k) in
    ap is_some u ∙ (ap (λ (q : RowKey). is_some (cond (same_row q (row_key k)) None (row c.args.self.now k))) c.of.ensures ∙ none_and (same c.args.key k) (row c.args.self.now k))

pub returns-clause-sets : goal.returns-clause-sets
returns-clause-sets c = λ k d. let u = c.swap_remove.ensures.updates.0 (row_key k) in
    ap (λ o. is_in o d) u ∙ (ap (λ (q : RowKey). is_in (cond (same_row q (row_key k)) None (row c.args.self.now k)) d) c.of.ensures ∙ in_none (same c.args.key k) (row c.args.self.now k) d)

use Rattle.std.proofs.Common.{◌≡◌, Some, ap, ◌∙◌, subst, sym}
use Rattle.indexmap.specs.IndexMap.{get}
use Rattle.hp_called.specs.declared.rows.RowKey.{RowKey}
use Rattle.hp_called.specs.Rows.{same_row}
use Rattle.hp_called.proofs.RowLemmas.{one_row}
use Rattle.hp_called.proofs.rows.Rows.guessed.Goals as goal

pub returns-then-eq : goal.returns-then-eq
returns-then-eq c =
    let found = c.in_ok-found.found.now in
    let set = c.in_ok-found.field-0-1.now in
    let same = one_row found c.args.key (sym c.eq.ensures ∙ c.if-eq.true) in
    record {
      set = set;
      at = sym c.in_ok-found.ensures.entry ∙ ap (λ (k : RowKey). Some (k, set)) same;
      found = subst (λ k. get same_row c.args.self.now.sets k ≡ Some set) same c.in_ok-found.ensures.value;
    }

use Rattle.std.proofs.Common.{◌≡◌, Some, ap, ◌∙◌, sym}
use Rattle.std.specs.Prelude.{slice_get, option_map}
use Rattle.std.proofs.lemmas.Option.{slice_get-map}
use Rattle.indexmap.specs.IndexMap.{keys}
use Rattle.hp_states.proofs.Basics.{same_some}
use Rattle.hp_states.specs.declared.cpu_set.CpuSet.{CpuSet}
use Rattle.hp_called.specs.declared.rows.RowKey.{RowKey}
use Rattle.hp_called.proofs.RowLemmas.{at_key}
use Rattle.hp_called.proofs.rows.Rows.looked_up.Goals as goal

pub returns-clause-some : goal.returns-clause-some
returns-clause-some c =
    let key = c.in_ok-place.field-0-1.now in
    let set = c.in_ok-place.field-0-2.now in
    let place = c.in_ok-place.place in
    let sets = c.args.self.now.sets in
    let there = at_key c.args.key (keys sets) place (sym c.in_ok-place.ensures.index) in
    let here : slice_get (keys sets) place ≡ Some key =
    slice_get-map (λ (e : RowKey × CpuSet). e.0) sets.entries place
    ∙ ap (λ o. option_map (λ (e : RowKey × CpuSet). e.0) o) c.in_ok-place.ensures.entry in
    let same = same_some key c.args.key (sym here ∙ there) in
    record {
      set = set;
      at = c.in_ok-place.ensures.entry ∙ ap (λ (k : RowKey). Some (k, set)) same;
      found = sym c.in_ok-place.ensures.value;
    }

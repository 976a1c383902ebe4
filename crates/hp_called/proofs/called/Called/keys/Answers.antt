use Rattle.std.proofs.Common.{List, subst, ◌∙◌}
use Rattle.std.specs.Prelude.{IsPermutation}
use Rattle.hp_event.specs.declared.key.Key.{Key}
use Rattle.hp_called.proofs.KeysListed.{listed}
use Rattle.hp_called.proofs.called.Called.keys.Goals as goal

pub returns : goal.returns
returns c = λ head events is.
    let sorted = c.sort_unstable.new.self.items in
    c.from_vec.ensures
    ∙ listed c.args.cpu events c.args.self.now.rows.sets.entries sorted c.in_ok-keys.ensures.unique (λ k. is.in_force k c.args.cpu)
    (subst (λ (ks : List Key). IsPermutation ks sorted) c.in_ok-keys.ensures.keys c.sort_unstable.ensures.permutation)
    c.sort_unstable.ensures.sorted

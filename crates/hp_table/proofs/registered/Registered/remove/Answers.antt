use Rattle.std.proofs.Common.{rules, ℕ, not, eqb, refl}
use Rattle.std.proofs.lemmas.Fn.{filter_same}
use Rattle.hp_table.proofs.registered.Registered.remove.Goals as goal

pub returns : goal.returns
returns g c =
    let kept = filter_same _ (λ (i : ℕ). not (eqb i c.args.inst)) _ (λ x b f h. search rules) _ _ c.retain.ensures.filtered in
    rw (← c.self.view_is, kept) refl

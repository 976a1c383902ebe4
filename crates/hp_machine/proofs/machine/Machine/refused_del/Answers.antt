use Rattle.std.proofs.Common.{◌≡◌, ◌||◌, not, Some, None, cond, sym, ◌∙◌, rules}
use Rattle.hp_states.specs.declared.limits.TheConstants.{EINVAL}
use Rattle.hp_table.specs.Instances.{is_multi_at, has_instance}
use Rattle.hp_machine.proofs.RefusalsSaid.{del_said}
use Rattle.hp_machine.proofs.machine.Machine.refused_del.Goals as goal

pub returns : goal.returns
returns g c = λ form.
    let m = c.self.inside in
    let is : c.invalid.result
    ≡ cond (not (is_multi_at m.table c.args.state) || not (has_instance m.table c.args.state c.args.inst)) (Some EINVAL) None =
    search rules in
    rw (sym c.self.view_is)
    (is
    ∙ sym
    (del_said m.journal.head m.journal.events m.table c.args.state c.args.inst form (rw (sym c.self.view_is) at c.requires)
    c.self.invariant.table_is))

use Rattle.std.proofs.Common.{◌≡◌, true, false, Some, None, cond, sym, ◌∙◌, rules}
use Rattle.hp_states.specs.declared.limits.TheConstants.{ENOSPC}
use Rattle.hp_table.specs.Instances.{has_no_room, is_multi_at, has_instance}
use Rattle.hp_machine.proofs.RefusalsSaid.{add_said}
use Rattle.hp_machine.proofs.machine.Machine.refused_add.Goals as goal

pub returns-then-contains : goal.returns-then-contains
returns-then-contains g c = λ form.
    let m = c.self.inside in
    let multi : is_multi_at m.table c.args.state ≡ true = search rules in
    let has : has_instance m.table c.args.state c.args.inst ≡ true = search rules in
    rw (sym c.self.view_is)
    (sym
    (add_said m.journal.head m.journal.events m.table c.args.state c.args.inst form (rw (sym c.self.view_is) at c.requires)
    c.self.invariant.table_is c.instances.ensures.sound.states ∙ rw (multi, has)))

pub returns : goal.returns
returns g c = λ form.
    let m = c.self.inside in
    let multi : is_multi_at m.table c.args.state ≡ true = search rules in
    let has : has_instance m.table c.args.state c.args.inst ≡ false = search rules in
    let is : c.then_some.result ≡ cond (has_no_room m.table c.args.state) (Some ENOSPC) None = search rules in
    rw (sym c.self.view_is)
    (is
    ∙ sym
    (add_said m.journal.head m.journal.events m.table c.args.state c.args.inst form (rw (sym c.self.view_is) at c.requires)
    c.self.invariant.table_is c.instances.ensures.sound.states ∙ rw (multi, has)))

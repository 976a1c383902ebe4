use Rattle.std.proofs.Common.{◌≡◌, to_z, of_z, w32, sym, ◌∙◌, rules}
use Rattle.hp_machine.proofs.RefusalsSaid.{target_said}
use Rattle.hp_machine.proofs.machine.Machine.refused_target.Goals as goal

pub returns-in-Ok : goal.returns-in-Ok
returns-in-Ok g c =
    let m = c.self.inside in
    let sent : to_z w32 (of_z w32 c.args.value) ≡ c.args.value = search rules in
    let said = rw sent at (sym c.in-Ok.is ∙ c.check_target.ensures.by_table) in
    c.refused_way.ensures
    ∙ rw (sym c.self.view_is)
    (target_said m.journal.head m.journal.events m.table c.args.cpu c.in-Ok.state c.args.value
    (rw (sym c.self.view_is) at c.requires.idle) c.self.invariant.table_is c.requires.state said)

use Rattle.std.proofs.Common.{◌≡◌, to_z, of_z, w32, sym, ◌∙◌, rules}
use Rattle.hp_model.specs.Refusals.{refusals_of_arm}
use Rattle.hp_model.specs.RefusalsAtOnce.{first_that_holds}
use Rattle.hp_machine.proofs.RefusalsSaid.{callbacks_alike, arm_said}
use Rattle.hp_machine.proofs.machine.Machine.refused_arm.Goals as goal

pub returns : goal.returns
returns g c =
    let m = c.self.inside in
    let j = m.journal in
    let sent : to_z w32 (of_z w32 c.args.value) ≡ c.args.value = search rules in
    let said =
    rw sent at
    (c.check_fail.ensures.by_events j.head j.events c.args.cpu
    (callbacks_alike j.head j.events m.table (rw (sym c.self.view_is) at c.requires.idle) c.self.invariant.table_is)
    (rw (sym c.self.view_is) at c.shown.ensures)) in
    rw (sym c.self.view_is)
    (c.err.ensures.value
    ∙ arm_said (first_that_holds (refusals_of_arm j.head j.events c.args.cpu c.args.value)) c.args.value c.check_fail.result said)

use Rattle.std.proofs.Common.{sym, subst}
use Rattle.hp_account.specs.Operations.{IsHeldBy}
use Rattle.hp_machine.proofs.InFlightOps.{held_op_is}
use Rattle.hp_machine.proofs.machine.Machine.op.Goals as goal

pub returns-in-Some-default : goal.returns-in-Some-default
returns-in-Some-default g c =
    let j = c.self.inside.journal in
    let k = c.self.invariant.kept in
    let held = c.in-Some-default.held in
    let is = subst (IsHeldBy j.head j.events) c.in-Some-default.is-0 k.account.operation in
    rw (sym c.self.view_is) (λ op. held_op_is j.head j.events held c.args.seat op k.lawful is c.if-held-seat.true)

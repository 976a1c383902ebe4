use Rattle.std.proofs.Common.{sym, subst}
use Rattle.hp_account.specs.UnderWay.{IsUnderWay}
use Rattle.hp_machine.proofs.ThreadsWaited.{coming_waits}
use Rattle.hp_machine.proofs.machine.Machine.ap_turn.Goals as goal

pub returns-in-Some : goal.returns-in-Some
returns-in-Some g c =
    let j = c.self.inside.journal in
    let is = subst (IsUnderWay j.head j.events) c.in-Some.is c.self.invariant.under_way in
    rw (sym c.self.view_is, c.waits_of.ensures)
    (coming_waits j.head j.events c.in-Some.coming c.self.invariant.kept.lawful is c.args.seat)

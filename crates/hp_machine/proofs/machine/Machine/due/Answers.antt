use Rattle.std.proofs.Common.{◌∙◌, ap, sym, subst}
use Rattle.hp_account.specs.UnderWay.{IsUnderWay, due_by}
use Rattle.hp_machine.proofs.DueSaid.{due_is}
use Rattle.hp_machine.proofs.machine.Machine.due.Goals as goal

pub returns-in-Some : goal.returns-in-Some
returns-in-Some g c =
    let j = c.self.inside.journal in
    let is = subst (IsUnderWay j.head j.events) c.in-Some.is c.self.invariant.under_way in
    rw (sym c.self.view_is, c.due_from.ensures ∙ ap (due_by c.args.seat) c.in-Some.is)
    (due_is j.head j.events c.args.seat c.in-Some.field-0 is)

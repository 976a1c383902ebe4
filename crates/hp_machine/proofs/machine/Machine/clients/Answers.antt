use Rattle.std.proofs.Common.{◌≡◌, ◌∙◌, subst}
use Rattle.hp_machine.specs.Clients.{clients}
use Rattle.hp_machine.specs.Contents.{Contents}
use Rattle.hp_machine.proofs.ClientsCounted.{clients_are}
use Rattle.hp_machine.proofs.machine.Machine.clients.Goals as goal

pub returns : goal.returns
returns g c =
    let j = c.self.inside.journal in
    let is = c.clients.ensures ∙ clients_are j.head j.events c.self.inside.account.seats c.self.invariant.kept.account.seats in
    subst (λ (m : Contents). c.clients.result ≡ clients m.events) c.self.view_is is

use Rattle.std.proofs.Common.{◌≡◌, ◌∙◌, subst}
use Rattle.hp_model.specs.Processors.{is_present}
use Rattle.hp_machine.specs.Contents.{Contents}
use Rattle.hp_machine.proofs.OnlineSaid.{present_said}
use Rattle.hp_machine.proofs.machine.Machine.is_present.Goals as goal

pub returns : goal.returns
returns g c =
    let m = c.self.inside in
    let is =
    c.is_present.ensures
    ∙ present_said m.journal.head m.journal.events m.account.processors c.self.invariant.kept.account.processors c.args.cpu in
    subst (λ (m : Contents). c.is_present.result ≡ is_present m.head c.args.cpu) c.self.view_is is

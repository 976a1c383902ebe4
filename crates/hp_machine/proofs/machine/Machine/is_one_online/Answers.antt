use Rattle.std.proofs.Common.{ap, sym, ◌∙◌}
use Rattle.std.specs.Prelude.{nat_eq}
use Rattle.hp_machine.proofs.RefusalsSaid.{online_said}
use Rattle.hp_machine.proofs.machine.Machine.is_one_online.Goals as goal

pub returns : goal.returns
returns g c =
    let m = c.self.inside in
    rw (sym c.self.view_is)
    (ap (λ n. nat_eq n 1)
    (c.online_count.ensures.count
    ∙ online_said m.journal.head m.journal.events m.account.processors c.self.invariant.kept.account.processors))

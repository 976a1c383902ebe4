use Rattle.std.proofs.Common.{◌≡◌, ℕ, subst}
use Rattle.hp_states.specs.CpuSets.{has}
use Rattle.hp_model.specs.Settled.{is_online}
use Rattle.hp_machine.specs.Contents.{Contents}
use Rattle.hp_machine.proofs.OnlineSaid.{set_said}
use Rattle.hp_machine.proofs.machine.Machine.online_set.Goals as goal

pub returns : goal.returns
returns g c =
    let m = c.self.inside in
    let k = c.self.invariant.kept in
    subst (λ (m : Contents). (cpu : ℕ) → has c.online_set.result cpu ≡ is_online cpu m.events) c.self.view_is
    (set_said m.journal.head m.journal.events m.account.processors c.online_set.result k.lawful k.account.processors
    c.online_set.ensures)

-- Each front of the pass's from its ReadLock on has just these processors online.
use Rattle.std.proofs.Common.{sym, subst}
use Rattle.hp_model.specs.Lawful.{IsLawful}
use Rattle.hp_live.specs.ReadSections.{IsOnlineThroughout, Reader}
use Rattle.hp_live.proofs.ReadOnline.{throughout}
use Rattle.hp_live.proofs.read_pass.ReadPass.online.Goals as goal

pub returns-clause-throughout : goal.returns-clause-throughout
returns-clause-throughout g c =
    let r : Reader = record { pass = c.self.inside.own; online = c.self.inside.online } in
    subst (λ (x : Reader). IsOnlineThroughout x x.pass.front) c.self.view_is
    (throughout r c.self.invariant
    (subst (λ (x : Reader). IsLawful x.pass.head x.pass.front) (sym c.self.view_is) c.sound.ensures.lawful))

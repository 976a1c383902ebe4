use Rattle.std.proofs.Common.{◌↔◌, IsTrue, sym, subst}
use Rattle.hp_event.specs.declared.event.Event.TheVariants.{Leave}
use Rattle.hp_model.specs.Lawful.{Stands}
use Rattle.hp_machine.proofs.Leaves.{leaves_so}
use Rattle.hp_machine.proofs.machine.Machine.can_leave.Goals as goal

pub returns : goal.returns
returns g c =
    let m = c.args.self.now in
    subst (λ b. IsTrue b ↔ Stands m.head m.events (Leave c.args.seat)) (sym c.has_nothing_to_do.ensures)
    (leaves_so m.head m.events c.args.seat)

use Rattle.std.proofs.Common.{◌∙◌, sym, subst}
use Rattle.hp_event.specs.declared.event.Event.TheVariants.{Admit}
use Rattle.hp_model.specs.Lawful.{Stands}
use Rattle.hp_machine.proofs.Admitted.{admission_stands}
use Rattle.hp_machine.proofs.machine.Machine.admit.Goals as goal

pub make-requires-clause-stands : goal.make-requires-clause-stands
make-requires-clause-stands g c =
    let m = c.args.self.now in
    subst (λ k. Stands m.head m.events (Admit k c.args.role)) (sym c.admitted-seat.ensures)
    (admission_stands m.head m.events c.args.role (sym c.refusal.ensures ∙ c.in_default.is))

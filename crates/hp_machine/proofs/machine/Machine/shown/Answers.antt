use Rattle.std.proofs.Common.{sym, ◌∙◌}
use Rattle.hp_machine.proofs.FilesSaid.{shown_at_rest}
use Rattle.hp_machine.proofs.machine.Machine.shown.Goals as goal

pub returns-in-None : goal.returns-in-None
returns-in-None g c =
    let m = c.self.inside in
    rw (sym c.self.view_is)
    ((rw (sym c.self.view_is) at c.state.ensures)
    ∙ sym (shown_at_rest m.journal.head m.journal.events m.account c.args.cpu c.self.invariant.kept.account
    (sym c.flight.ensures ∙ c.in-None.is)).0)

use Rattle.std.proofs.Common.{◌∙◌, sym}
use Rattle.hp_machine.proofs.BatchServed.{owns_none, owns_turn}
use Rattle.hp_machine.proofs.machine.Machine.own_due.Goals as goal

pub returns-in_err-cpu : goal.returns-in_err-cpu
returns-in_err-cpu g c =
    let known = rw (sym c.self.view_is) at c.requires.known in
    let up = rw (sym c.self.view_is) at c.requires.upmany in
    let turn = rw (sym c.self.view_is) at c.turn.ensures in
    rw (sym c.self.view_is, c.from_residual.ensures)
    (λ cpu. owns_none c.self.invariant up cpu known (sym turn ∙ c.in_err-cpu.was))

pub returns : goal.returns
returns g c =
    let known = rw (sym c.self.view_is) at c.requires.known in
    let up = rw (sym c.self.view_is) at c.requires.upmany in
    let turn = rw (sym c.self.view_is) at c.turn.ensures in
    rw (sym c.self.view_is, c.then_some.ensures, c.has_entry.ensures)
    (λ cpu. owns_turn c.self.invariant up c.in_ok-cpu.cpu cpu known (sym turn ∙ c.in_ok-cpu.was))

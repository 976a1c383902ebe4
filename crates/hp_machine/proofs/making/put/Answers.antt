use Rattle.std.proofs.Common.{sym, subst}
use Rattle.hp_machine.proofs.Made.{admitted_machine}
use Rattle.hp_model.specs.Seats.{admits}
use Rattle.hp_machine.proofs.making.put.Goals as goal

pub returns-in-Admit-clause-machine : goal.returns-in-Admit-clause-machine
returns-in-Admit-clause-machine g c =
    let a = c.admit.ensures in
    admitted_machine c.admit.result c.args.journal.now c.admit.new.journal c.admit.new.self c.admit.new.coming (admits c.args.journal.now.events)
    c.in-Admit.role c.args.table.now a.head a.events a.kept a.under_way c.requires.table

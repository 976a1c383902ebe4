use Rattle.std.proofs.Common.{refl, sym, subst}
use Rattle.hp_event.specs.declared.event.Event.TheVariants.{Leave}
use Rattle.hp_account.proofs.TableMore.{table_same}
use Rattle.hp_machine.proofs.Made.{made_machine}
use Rattle.hp_machine.proofs.machine.Machine.leave.Goals as goal

pub append-requires-clause-table : goal.append-requires-clause-table
append-requires-clause-table g c =
    let j = c.self.inside.journal in
    table_same j.head j.events c.self.inside.table (Leave c.args.seat) tt c.self.invariant.table_is

pub invariant_of-self : goal.invariant_of-self
invariant_of-self g c =
    let j = c.self.inside.journal in
    let a = c.append.ensures in
    made_machine j c.append.new.journal c.append.new.self c.append.new.coming (Leave c.args.seat)
    c.self.inside.table a.head a.events a.kept a.under_way
    (table_same j.head j.events c.self.inside.table (Leave c.args.seat) tt c.self.invariant.table_is)

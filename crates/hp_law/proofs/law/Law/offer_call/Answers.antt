use Rattle.std.proofs.Common.{sym, subst}
use Rattle.hp_table.specs.Step.{AllHome}
use Rattle.hp_account.specs.Entries.{entry_event}
use Rattle.hp_machine.proofs.Homes.{home_after}
use Rattle.hp_machine.specs.Contents.{Contents}
use Rattle.hp_law.proofs.law.Law.offer_call.Goals as goal

pub invariant_of-self : goal.invariant_of-self
invariant_of-self c =
    let m = c.self.inside.machine in
    subst (λ (x : Contents). AllHome x.places) (sym c.make_entry.ensures)
    (home_after m.head m.events (entry_event m.head m.events c.in-Some.entry) m.places c.self.invariant)

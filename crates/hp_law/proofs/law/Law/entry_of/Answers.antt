use Rattle.std.proofs.Common.{sym, subst}
use Rattle.hp_model.specs.Lawful.{IsLawful}
use Rattle.hp_machine.specs.Next.{IsDue}
use Rattle.hp_account.specs.Entries.{entry_event}
use Rattle.hp_law.specs.Law.{Taken}
use Rattle.hp_law.specs.EntryOf.{IsEntryOf}
use Rattle.hp_law.proofs.Comes.{of_seat, entry_by, no_entry}
use Rattle.hp_law.proofs.law.Law.entry_of.Goals as goal

pub makes-requires : goal.makes-requires
makes-requires c =
    let l = c.self.inside.machine in
    of_seat l.head l.events c.args.seat c.args.event.now (entry_event l.head l.events c.in-Some.entry) c.sound.ensures.lawful c.requires.seat c.in-Some.ensures

pub returns-in-Some : goal.returns-in-Some
returns-in-Some c =
    let t = c.args.self.now in
    let e = c.args.event.now in
    let lawful = subst (λ (t : Taken). IsLawful t.head t.events) c.self.view_is c.sound.ensures.lawful in
    let due = subst (λ (t : Taken). IsDue t.head t.events c.args.seat c.due.result) c.self.view_is c.due.ensures in
    let entry = entry_by t.head t.events c.args.seat e c.in-Some.entry c.makes.result lawful c.requires.call c.requires.seat
    (subst (IsDue t.head t.events c.args.seat) c.in-Some.is due) c.makes.ensures in
    subst (IsEntryOf t.head t.events e) (sym c.then_some.ensures) entry

pub returns-in-None : goal.returns-in-None
returns-in-None c =
    let t = c.args.self.now in
    let lawful = subst (λ (t : Taken). IsLawful t.head t.events) c.self.view_is c.sound.ensures.lawful in
    let due = subst (λ (t : Taken). IsDue t.head t.events c.args.seat c.due.result) c.self.view_is c.due.ensures in
    no_entry t.head t.events c.args.seat c.args.event.now lawful c.requires.call c.requires.seat
    (subst (IsDue t.head t.events c.args.seat) c.in-None.is due)

use Rattle.std.proofs.Common.{◌≡◌, true, sym, subst}
use Rattle.hp_states.specs.CpuSets.{has}
use Rattle.hp_model.specs.NextEvent.{due_entry}
use Rattle.hp_account.specs.Entries.{entry_event}
use Rattle.std.proofs.Common.{Some}
use Rattle.hp_board.specs.Contents.{Contents}
use Rattle.hp_board.proofs.LentEntries.{never_none, entry_found}
use Rattle.hp_board.proofs.board.Board.lent_entry.Goals as goal

pub unreachable-requires-in-None : goal.unreachable-requires-in-None
unreachable-requires-in-None g c =
    let b = c.self.inside.machine in
    let lent = subst (λ (b : Contents). has b.lent c.args.cpu ≡ true) (sym c.self.view_is) c.requires in
    never_none b c.args.cpu c.sound.ensures.lawful c.self.invariant.out lent c.in-None.ensures.none

pub returns-clause-due : goal.returns-clause-due
returns-clause-due g c =
    let b = c.self.inside.machine in
    let x = c.in-Some-due.entry in
    let lent = subst (λ (b : Contents). has b.lent c.args.cpu ≡ true) (sym c.self.view_is) c.requires in
    subst (λ (b : Contents). due_entry b.head b.events x.seat ≡ Some (entry_event b.head b.events x)) c.self.view_is
    (entry_found b c.args.cpu c.in-Some.field-0-0 c.in-Some.seat x c.self.invariant.out lent c.in-Some.ensures.some c.in-Some-due.ensures).0

pub returns-clause-cpu : goal.returns-clause-cpu
returns-clause-cpu g c =
    let b = c.self.inside.machine in
    let x = c.in-Some-due.entry in
    let lent = subst (λ (b : Contents). has b.lent c.args.cpu ≡ true) (sym c.self.view_is) c.requires in
    (entry_found b c.args.cpu c.in-Some.field-0-0 c.in-Some.seat x c.self.invariant.out lent c.in-Some.ensures.some c.in-Some-due.ensures).1

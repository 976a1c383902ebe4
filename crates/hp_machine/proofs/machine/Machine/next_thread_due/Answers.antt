use Rattle.std.proofs.Common.{sym, subst}
use Rattle.hp_account.specs.UnderWay.{IsUnderWay}
use Rattle.hp_machine.proofs.DueSaid.{thread_beyond_some, thread_beyond_none}
use Rattle.hp_machine.proofs.machine.Machine.next_thread_due.Goals as goal

pub returns-in-Some-clause-some : goal.returns-in-Some-clause-some
returns-in-Some-clause-some g c =
    let j = c.self.inside.journal in
    let is = subst (IsUnderWay j.head j.events) c.in-Some.is c.self.invariant.under_way in
    rw (sym c.self.view_is, c.thread_due_beyond.ensures)
    (thread_beyond_some j.head j.events c.args.from c.in-Some.coming c.self.invariant.kept.lawful is)

pub returns-in-Some-clause-none : goal.returns-in-Some-clause-none
returns-in-Some-clause-none g c =
    let j = c.self.inside.journal in
    let is = subst (IsUnderWay j.head j.events) c.in-Some.is c.self.invariant.under_way in
    rw (sym c.self.view_is, c.thread_due_beyond.ensures)
    (thread_beyond_none j.head j.events c.args.from j.head.possible c.in-Some.coming c.self.invariant.kept.lawful is)

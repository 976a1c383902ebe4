use Rattle.std.proofs.Common.{sym}
use Rattle.hp_account.proofs.InBatch.{of_batch, not_batch}
use Rattle.hp_machine.proofs.BatchDue.{rests_due, none_on}
use Rattle.hp_machine.proofs.BatchServed.{are_due}
use Rattle.hp_machine.proofs.LowestDue.{lower_some, lower_none}
use Rattle.hp_machine.proofs.machine.Machine.next_due_in_batch.Goals as goal

pub returns-in_err-holder-clause-none : goal.returns-in_err-holder-clause-none
returns-in_err-holder-clause-none g c =
    let j = c.self.inside.journal in
    let known = rw (sym c.self.view_is) at c.requires in
    let single = not_batch j.head j.events c.self.inside.account.operation c.self.invariant.kept.account.operation c.in_err-holder.ensures in
    rw (sym c.self.view_is, c.from_residual.ensures)
    (λ cpu seat low high. none_on j.head j.events seat cpu (rests_due j.head j.events seat known single))

pub returns-clause-some : goal.returns-clause-some
returns-clause-some g c =
    let j = c.self.inside.journal in
    let x = c.in_ok-holder in
    let up = of_batch j.head j.events c.self.inside.account.operation x.holder x.batch.now c.self.invariant.kept.account.operation x.ensures in
    let known = rw (sym c.self.view_is) at c.requires in
    let own = rw (sym c.self.view_is) at c.own_due-own.ensures in
    let some = rw (sym c.self.view_is) at c.next_thread_due_in_batch-due.ensures.some in
    let none = rw (sym c.self.view_is) at c.next_thread_due_in_batch-due.ensures.none in
    rw (sym c.self.view_is, c.lower.ensures)
    (lower_some j.head j.events c.own_due-own.result c.args.from x.holder c.next_thread_due_in_batch-due.result
    (are_due c.self.invariant up c.own_due-own.result known own) some none)

pub returns-clause-none : goal.returns-clause-none
returns-clause-none g c =
    let j = c.self.inside.journal in
    let x = c.in_ok-holder in
    let up = of_batch j.head j.events c.self.inside.account.operation x.holder x.batch.now c.self.invariant.kept.account.operation x.ensures in
    let known = rw (sym c.self.view_is) at c.requires in
    let own = rw (sym c.self.view_is) at c.own_due-own.ensures in
    let none = rw (sym c.self.view_is) at c.next_thread_due_in_batch-due.ensures.none in
    rw (sym c.self.view_is, c.lower.ensures)
    (lower_none j.head j.events c.own_due-own.result c.args.from x.holder c.next_thread_due_in_batch-due.result
    (are_due c.self.invariant up c.own_due-own.result known own) none)

use Rattle.std.proofs.Common.{sym}
use Rattle.hp_account.proofs.InBatch.{of_batch, not_batch}
use Rattle.hp_machine.proofs.BatchDue.{rests_due, none_on}
use Rattle.hp_machine.proofs.BatchServed.{thread_some, thread_none}
use Rattle.hp_machine.proofs.machine.Machine.next_thread_due_in_batch.Goals as goal

pub returns-in_err-batch-clause-none : goal.returns-in_err-batch-clause-none
returns-in_err-batch-clause-none g c =
    let j = c.self.inside.journal in
    let known = rw (sym c.self.view_is) at c.requires in
    let single = not_batch j.head j.events c.self.inside.account.operation c.self.invariant.kept.account.operation c.in_err-batch.ensures in
    rw (sym c.self.view_is, c.from_residual.ensures)
    (λ cpu seat low high t. none_on j.head j.events seat cpu (rests_due j.head j.events seat known single) t.due)

pub returns-clause-some : goal.returns-clause-some
returns-clause-some g c =
    let j = c.self.inside.journal in
    let x = c.in_ok-batch.field-0 in
    let up = of_batch j.head j.events c.self.inside.account.operation x.0 x.1.now c.self.invariant.kept.account.operation c.in_ok-batch.ensures in
    let known = rw (sym c.self.view_is) at c.requires in
    rw (sym c.self.view_is) (thread_some c.self.invariant up c.args.from c.thread_due.result known c.thread_due.ensures.some)

pub returns-clause-none : goal.returns-clause-none
returns-clause-none g c =
    let j = c.self.inside.journal in
    let x = c.in_ok-batch.field-0 in
    let up = of_batch j.head j.events c.self.inside.account.operation x.0 x.1.now c.self.invariant.kept.account.operation c.in_ok-batch.ensures in
    let known = rw (sym c.self.view_is) at c.requires in
    rw (sym c.self.view_is) (thread_none c.self.invariant up c.args.from j.head.possible c.thread_due.result known c.thread_due.ensures.none)

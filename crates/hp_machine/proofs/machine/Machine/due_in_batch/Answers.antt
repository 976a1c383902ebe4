use Rattle.std.proofs.Common.{◌∙◌, sym}
use Rattle.hp_states.proofs.Basics.{none_some}
use Rattle.hp_account.proofs.InBatch.{of_batch, not_batch}
use Rattle.hp_machine.proofs.BatchDue.{nobodys_due, threads_entry, holders_none, holders_entry, rests_due}
use Rattle.hp_machine.proofs.machine.Machine.due_in_batch.Goals as goal

pub returns-in_err-holder : goal.returns-in_err-holder
returns-in_err-holder g c =
    let j = c.self.inside.journal in
    let known = rw (sym c.self.view_is) at c.requires in
    rw (sym c.self.view_is, c.from_residual.ensures)
    (rests_due j.head j.events c.args.seat known
    (not_batch j.head j.events c.self.inside.account.operation c.self.invariant.kept.account.operation c.in_err-holder.ensures))

pub returns-in_err-cpu : goal.returns-in_err-cpu
returns-in_err-cpu g c =
    let j = c.self.inside.journal in
    let k = c.self.invariant.kept in
    let x = c.in_ok-holder in
    let up = of_batch j.head j.events c.self.inside.account.operation x.holder x.batch.now k.account.operation x.ensures in
    let turn = rw (sym c.self.view_is) at c.turn.ensures in
    rw (sym c.self.view_is, c.from_residual-in_err-cpu.ensures, sym c.if-holder-seat.true)
    (holders_none j.head j.events x.holder x.batch.now k.lawful up (sym turn ∙ c.in_err-cpu.was))

pub returns-then-holder-seat : goal.returns-then-holder-seat
returns-then-holder-seat g c =
    let j = c.self.inside.journal in
    let k = c.self.invariant.kept in
    let x = c.in_ok-holder in
    let up = of_batch j.head j.events c.self.inside.account.operation x.holder x.batch.now k.account.operation x.ensures in
    let turn = rw (sym c.self.view_is) at c.turn.ensures in
    let next = rw (sym c.self.view_is) at c.next_on.ensures in
    rw (sym c.self.view_is, c.due_from.ensures, sym c.if-holder-seat.true)
    (holders_entry j.head j.events x.holder c.in_ok-cpu.cpu x.batch.now c.next_on.result k.lawful up (sym turn ∙ c.in_ok-cpu.was) next)

pub returns-in_err-cpu-2 : goal.returns-in_err-cpu-2
returns-in_err-cpu-2 g c =
    let j = c.self.inside.journal in
    let k = c.self.invariant.kept in
    let x = c.in_ok-holder in
    let up = of_batch j.head j.events c.self.inside.account.operation x.holder x.batch.now k.account.operation x.ensures in
    let known = rw (sym c.self.view_is) at c.requires in
    let of = rw (sym c.self.view_is) at c.processor_of.ensures in
    rw (sym c.self.view_is, c.from_residual-in_err-cpu-2.ensures)
    (nobodys_due j.head j.events c.args.seat x.holder x.batch.now k.lawful known up c.if-holder-seat.false
    (λ d a. none_some d (sym c.in_err-cpu-2.was ∙ (of d).0 a)))

pub returns : goal.returns
returns g c =
    let j = c.self.inside.journal in
    let k = c.self.invariant.kept in
    let x = c.in_ok-holder in
    let cpu = c.in_ok-cpu-2.cpu in
    let up = of_batch j.head j.events c.self.inside.account.operation x.holder x.batch.now k.account.operation x.ensures in
    let known = rw (sym c.self.view_is) at c.requires in
    let of = rw (sym c.self.view_is) at c.processor_of.ensures in
    let next = rw (sym c.self.view_is) at c.next_on-2.ensures in
    rw (sym c.self.view_is, c.due_from-2.ensures)
    (threads_entry j.head j.events c.args.seat x.holder cpu x.batch.now c.next_on-2.result k.lawful known up
    ((of cpu).1 c.in_ok-cpu-2.was) next)

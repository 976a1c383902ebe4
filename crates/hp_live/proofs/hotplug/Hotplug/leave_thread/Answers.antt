-- Entries, one after another, and then the leave.
use Rattle.hp_live.proofs.Entries.{enters_more, thread_more}
use Rattle.hp_live.proofs.RunsOn.{same_on}
use Rattle.hp_live.proofs.hotplug.Hotplug.leave_thread.Goals as goal

pub loop-preserved-in-Some-Turned-NotYet : goal.loop-preserved-in-Some-Turned-NotYet
loop-preserved-in-Some-Turned-NotYet g c =
    let e = c.in-Some-Turned-NotYet.ensures in
    record {
      same = same_on c.args.own.now c.loop.own c.leave_step.new.own c.loop.invariant.same e.same;
      thread = thread_more c.loop.own c.leave_step.new.own e.same e.thread;
      enters = enters_more c.args.own.now c.loop.own c.leave_step.new.own c.loop.invariant.same c.loop.invariant.enters e.enters;
    }

pub loop-preserved-in-Some-Turned : goal.loop-preserved-in-Some-Turned
loop-preserved-in-Some-Turned g c =
    let e = c.in-Some-Turned.ensures in
    record {
      same = same_on c.args.own.now c.loop.own c.leave_step.new.own c.loop.invariant.same e.same;
      thread = thread_more c.loop.own c.leave_step.new.own e.same e.thread;
      enters = enters_more c.args.own.now c.loop.own c.leave_step.new.own c.loop.invariant.same c.loop.invariant.enters e.enters;
    }

pub loop-preserved : goal.loop-preserved
loop-preserved g c =
    let e = c.in-Some-Lent.ensures in
    record {
      same = same_on c.args.own.now c.loop.own c.leave_step.new.own c.loop.invariant.same e.same;
      thread = thread_more c.loop.own c.leave_step.new.own e.same e.thread;
      enters = enters_more c.args.own.now c.loop.own c.leave_step.new.own c.loop.invariant.same c.loop.invariant.enters e.enters;
    }

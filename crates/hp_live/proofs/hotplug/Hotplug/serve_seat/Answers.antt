-- Entries, one after another, until nothing is due and no client is in.
use Rattle.hp_live.proofs.Entries.{enters_more, thread_more, rests_as}
use Rattle.hp_live.proofs.RunsOn.{same_on}
use Rattle.hp_live.proofs.hotplug.Hotplug.serve_seat.Goals as goal

pub returns-then-rests-clause-served : goal.returns-then-rests-clause-served
returns-then-rests-clause-served g c =
    let e = c.serve_step-stepped.ensures in
    record {
      enters =
          enters_more c.args.own.now c.loop.own c.serve_step-stepped.new.own c.loop.invariant.same c.loop.invariant.enters e.enters;
      rests = rests_as c.args.own.now c.loop.own c.serve_step-stepped.new.own.front c.loop.invariant.same (e.rests c.if-rests.true);
    }

pub loop-preserved-in-Turned-NotYet : goal.loop-preserved-in-Turned-NotYet
loop-preserved-in-Turned-NotYet g c =
    let e = c.serve_step-stepped.ensures in
    record {
      same = same_on c.args.own.now c.loop.own c.serve_step-stepped.new.own c.loop.invariant.same e.same;
      thread = thread_more c.loop.own c.serve_step-stepped.new.own e.same e.thread;
      enters =
          enters_more c.args.own.now c.loop.own c.serve_step-stepped.new.own c.loop.invariant.same c.loop.invariant.enters e.enters;
    }

pub loop-preserved-in-Turned : goal.loop-preserved-in-Turned
loop-preserved-in-Turned g c =
    let e = c.serve_step-stepped.ensures in
    record {
      same = same_on c.args.own.now c.loop.own c.serve_step-stepped.new.own c.loop.invariant.same e.same;
      thread = thread_more c.loop.own c.serve_step-stepped.new.own e.same e.thread;
      enters =
          enters_more c.args.own.now c.loop.own c.serve_step-stepped.new.own c.loop.invariant.same c.loop.invariant.enters e.enters;
    }

pub loop-preserved : goal.loop-preserved
loop-preserved g c =
    let e = c.serve_step-stepped.ensures in
    record {
      same = same_on c.args.own.now c.loop.own c.serve_step-stepped.new.own c.loop.invariant.same e.same;
      thread = thread_more c.loop.own c.serve_step-stepped.new.own e.same e.thread;
      enters =
          enters_more c.args.own.now c.loop.own c.serve_step-stepped.new.own c.loop.invariant.same c.loop.invariant.enters e.enters;
    }

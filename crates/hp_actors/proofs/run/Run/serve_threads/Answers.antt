-- Each thread's seat has its turn, or has nothing to make.
use Rattle.std.proofs.Common.{arith}
use Rattle.hp_actors.proofs.Later.{later_same, thread_later}
use Rattle.hp_actors.proofs.RoundLaws.{first_served, more_served, all_served, still_seated, thread_possible, thread_seated}
use Rattle.hp_actors.proofs.run.Run.serve_threads.Goals as goal

pub loop-cpu-init : goal.loop-cpu-init
loop-cpu-init g c = record { served = first_served c.args.self.now; made = later_same c.args.self.now }

pub serve-requires : goal.serve-requires
serve-requires g c =
    let s = c.loop-cpu.invariant.served in
    let due = c.in-Some.ensures.due in
    let seats = still_seated c.args.self.now c.loop-cpu.self c.loop-cpu.from c.sound.ensures.script c.sound.ensures.reached s in
    thread_seated c.args.self.now c.loop-cpu.self c.loop-cpu.from c.in-Some.cpu c.in-Some.seat s seats due.1

pub loop-cpu-smaller : goal.loop-cpu-smaller
loop-cpu-smaller g c =
    let s = c.loop-cpu.invariant.served in
    let due = c.in-Some.ensures.due in
    let low = due.0 in
    let seats = still_seated c.args.self.now c.loop-cpu.self c.loop-cpu.from c.sound.ensures.script c.sound.ensures.reached s in
    let inside = thread_possible c.args.self.now c.loop-cpu.self c.loop-cpu.from c.in-Some.cpu c.in-Some.seat s seats due.1 in
    omega (arith, low, inside)

pub loop-cpu-preserved : goal.loop-cpu-preserved
loop-cpu-preserved g c =
    let s = c.loop-cpu.invariant.served in
    let due = c.in-Some.ensures.due in
    let seats = still_seated c.args.self.now c.loop-cpu.self c.loop-cpu.from c.sound.ensures.script c.sound.ensures.reached s in
    let below = thread_seated c.args.self.now c.loop-cpu.self c.loop-cpu.from c.in-Some.cpu c.in-Some.seat s seats due.1 in
    record {
      served =
          more_served c.args.self.now c.loop-cpu.self c.serve.new.self c.loop-cpu.from c.in-Some.cpu c.in-Some.seat s seats due.0 due.1 due.2
          c.serve.ensures;
      made = thread_later c.args.self.now c.loop-cpu.self c.serve.new.self c.in-Some.seat c.loop-cpu.invariant.made below c.serve.ensures;
    }

pub returns-clause-progress : goal.returns-clause-progress
returns-clause-progress g c =
    let s = c.loop-cpu.invariant.served in
    all_served c.args.self.now c.loop-cpu.self c.loop-cpu.from s
    (still_seated c.args.self.now c.loop-cpu.self c.loop-cpu.from c.sound.ensures.script c.sound.ensures.reached s)
    c.in_default.ensures.idle

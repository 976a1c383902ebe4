-- An operation in a read section is asked for until it is answered.
use Rattle.std.proofs.Common.{is_some}
use Rattle.hp_threads.proofs.Playing.{tries_self, tries_more, tries_ends}
use Rattle.hp_threads.proofs.reading.ask_inside.Goals as goal

pub loop-init : goal.loop-init
loop-init g c = tries_self c.args.read.now.pass c.args.ask c.sound.ensures.role c.sound.ensures.idle c.requires.ready

pub returns-in-Ok-clause-done : goal.returns-in-Ok-clause-done
returns-in-Ok-clause-done g c =
    tries_ends c.args.read.now.pass c.loop.read.pass c.run_reading.new.read.pass c.args.ask.op c.loop.ask.op
    (is_some c.loop.ask.hook) c.in-Ok.field-0 c.loop.invariant c.in-Ok.ensures.same c.sound-in-Ok.ensures.lawful
    c.in-Ok.ensures.answered

pub loop-preserved : goal.loop-preserved
loop-preserved g c =
    let e = c.in-Err.ensures in
    tries_more c.args.read.now.pass c.loop.read.pass c.run_reading.new.read.pass c.args.ask.op c.loop.ask.op
    c.run_reading.new.ask.op (is_some c.loop.ask.hook) (is_some c.run_reading.new.ask.hook) c.loop.invariant e.same e.op
    c.sound-in-Err.ensures.lawful e.halted e.again

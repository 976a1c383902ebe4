use Rattle.std.proofs.Common.{is_some}
use Rattle.hp_threads.proofs.Playing.{Tries}
use Rattle.hp_threads.proofs.reading.ask_inside.Given as goal

abbrev pub invariant-loop : goal.invariant-loop
invariant-loop g l = Tries l.initial.read.pass l.read.pass l.initial.ask.op l.ask.op (is_some l.ask.hook)

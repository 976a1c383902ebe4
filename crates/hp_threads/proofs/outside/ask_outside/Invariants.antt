use Rattle.std.proofs.Common.{is_some}
use Rattle.hp_threads.proofs.Playing.{Tries}
use Rattle.hp_threads.proofs.outside.ask_outside.Given as goal

abbrev pub invariant-loop : goal.invariant-loop
invariant-loop g l = Tries l.initial.pass l.pass l.initial.ask.op l.ask.op (is_some l.ask.hook)

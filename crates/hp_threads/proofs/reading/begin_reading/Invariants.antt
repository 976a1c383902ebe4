use Rattle.hp_threads.proofs.Locking.{Waits}
use Rattle.hp_threads.proofs.reading.begin_reading.Given as goal

abbrev pub invariant-loop : goal.invariant-loop
invariant-loop g l = Waits l.initial.pass l.pass

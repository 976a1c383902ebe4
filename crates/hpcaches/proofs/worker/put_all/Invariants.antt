use Rattle.hpcaches.specs.Passes.{IsNext}
use Rattle.hpcaches.proofs.worker.put_all.Given as goal

abbrev pub invariant-loop-item : goal.invariant-loop-item
invariant-loop-item g l = IsNext l.fn.pass l.next

use Rattle.hpcaches.specs.Passes.{IsNext}
use Rattle.hpcaches.proofs.admin.all_up.Given as goal

abbrev pub invariant-loop-cpu : goal.invariant-loop-cpu
invariant-loop-cpu g l = IsNext l.initial.pass l.pass

use Rattle.hpcaches.specs.Passes.{IsNext}
use Rattle.hpcaches.proofs.admin.go_rounds.Given as goal

abbrev pub invariant-loop : goal.invariant-loop
invariant-loop g l = IsNext l.initial.pass l.pass

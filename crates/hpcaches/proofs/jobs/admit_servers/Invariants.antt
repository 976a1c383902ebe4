use Rattle.std.proofs.Common.{◌≡◌}
use Rattle.hpcaches.proofs.jobs.admit_servers.Given as goal

abbrev pub invariant-loop-cpu : goal.invariant-loop-cpu
invariant-loop-cpu g l = (l.root.lock ≡ l.initial.root.lock) × (l.root.head ≡ l.initial.root.head)

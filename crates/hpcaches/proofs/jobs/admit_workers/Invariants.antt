use Rattle.std.proofs.Common.{◌≡◌}
use Rattle.hpcaches.proofs.jobs.admit_workers.Given as goal

abbrev pub invariant-loop-number : goal.invariant-loop-number
invariant-loop-number g l = (l.root.lock ≡ l.initial.root.lock) × (l.root.head ≡ l.initial.root.head)

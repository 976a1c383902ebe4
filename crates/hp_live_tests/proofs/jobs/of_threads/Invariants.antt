use Rattle.std.proofs.Common.{◌≡◌}
use Rattle.hp_live_tests.proofs.jobs.of_threads.Given as goal

abbrev pub invariant-loop-cpu : goal.invariant-loop-cpu
invariant-loop-cpu g l = (l.root.lock ≡ l.initial.root.lock) × (l.root.head ≡ l.initial.root.head)

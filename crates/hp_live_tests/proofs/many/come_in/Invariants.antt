use Rattle.std.proofs.Common.{◌≡◌}
use Rattle.hp_live_tests.proofs.many.come_in.Given as goal

abbrev pub invariant-loop-number : goal.invariant-loop-number
invariant-loop-number g l = (l.root.lock ≡ l.initial.root.lock) × (l.root.head ≡ l.initial.root.head)

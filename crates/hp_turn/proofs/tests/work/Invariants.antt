use Rattle.std.proofs.Common.{◌≡◌, Some, None}
use Rattle.hp_turn.specs.Passes.{MayLock}
use Rattle.hp_turn.proofs.tests.work.Given as goal

abbrev pub invariant-loop-value : goal.invariant-loop-value
invariant-loop-value g l = MayLock l.lock l.pass × (l.pass.seat ≡ Some l.seat) × (l.pass.aside ≡ None)

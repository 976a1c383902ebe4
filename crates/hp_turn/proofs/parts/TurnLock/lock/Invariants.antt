use Rattle.std.proofs.Common.{◌≡◌, ◌≤◌, None}
use Rattle.hp_turn.specs.Pass.{IsSame}
use Rattle.hp_turn.proofs.parts.TurnLock.lock.Given as goal

abbrev pub invariant-loop : goal.invariant-loop
invariant-loop g l = IsSame l.initial.pass l.pass × (l.pass.held ≡ None) × (l.initial.pass.misses ≤ l.pass.misses)

use Rattle.std.proofs.Common.{◌≡◌, ◌≤◌}
use Rattle.hp_machine.specs.NamedIn.{named_in}
use Rattle.hp_machine.proofs.files.count_named.Given as goal

abbrev pub invariant-loop-state : goal.invariant-loop-state
invariant-loop-state g l = (l.named ≡ named_in l.table l.state) × (l.named ≤ l.state)

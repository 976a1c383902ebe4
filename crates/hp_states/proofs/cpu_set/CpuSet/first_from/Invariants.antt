use Rattle.std.proofs.Common.{◌≡◌, ℕ, ◌*◌, ◌<◌, ◌≤◌, false}
use Rattle.hp_states.specs.CpuSets.{has}
use Rattle.hp_states.proofs.cpu_set.CpuSet.first_from.Given as goal

abbrev pub invariant-loop-at : goal.invariant-loop-at
invariant-loop-at l = (cpu : ℕ) → l.from ≤ cpu → cpu < 64 * l.at → has l.self cpu ≡ false

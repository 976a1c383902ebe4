use Rattle.std.proofs.Common.{◌≡◌, ℕ, ◌-◌, ◌<◌, ◌&&◌, false}
use Rattle.hp_states.specs.declared.limits.TheConstants.{MAX_CPU_SET}
use Rattle.hp_states.specs.CpuSets.{has}
use Rattle.hp_smt.specs.Siblings.{is_sibling}
use Rattle.hp_smt.proofs.siblings.sibling_in.Given as goal

abbrev pub invariant-loop-cpu : goal.invariant-loop-cpu
invariant-loop-cpu l = (k : ℕ) → k < l.from → (has l.set k && is_sibling l.threads k) ≡ false

abbrev pub decreases-loop-cpu : goal.decreases-loop-cpu
decreases-loop-cpu l = MAX_CPU_SET - l.from

-- The processors that an upmany lists. This project's own.
use Rattle.std.specs.Prelude.{ℕ, List, filter}
use Rattle.hp_states.specs.declared.limits.TheConstants.{MAX_CPU_SET}
use Rattle.hp_states.specs.declared.cpu_set.CpuSet.{CpuSet}
use Rattle.hp_states.specs.CpuSets.{has}
use Rattle.hp_model.specs.Lists.{numbers}

-- its numbers, rising
unfoldable pub listed : CpuSet → List ℕ
listed set = filter (has set) (numbers MAX_CPU_SET)

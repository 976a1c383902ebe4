use Rattle.hp_states.specs.CpuSets.{has}
use Rattle.hp_states.proofs.CpuSetBits.{no_bits}
use Rattle.hp_states.proofs.cpu_set.CpuSet.none.Goals as goal

pub returns : goal.returns
unfolding has
returns c = λ cpu. no_bits cpu

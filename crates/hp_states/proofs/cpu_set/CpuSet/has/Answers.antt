use Rattle.std.proofs.Common.{refl}
use Rattle.hp_states.specs.CpuSets.{has}
use Rattle.hp_states.proofs.cpu_set.CpuSet.has.Goals as goal

pub returns : goal.returns
unfolding has
returns c = refl

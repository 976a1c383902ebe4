use Rattle.std.proofs.Common.{◌≡◌, length, arith, rules}
use Rattle.hp_states.specs.CpuSets.{has}
use Rattle.hp_states.proofs.CpuSetBits.{take_bits}
use Rattle.hp_states.proofs.cpu_set.CpuSet.take.Goals as goal

pub returns : goal.returns
unfolding has
returns c =
    let four : length c.args.self.now.words ≡ 4 = search rules in
    let below = c.requires in
    λ other. take_bits c.args.self.now.words c.args.cpu other (omega (arith, four, below))

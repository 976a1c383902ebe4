use Rattle.std.proofs.Common.{◌≡◌, length, arith, rules}
use Rattle.hp_states.specs.CpuSets.{has}
use Rattle.hp_states.proofs.CpuSetBits.{put_bits}
use Rattle.hp_states.proofs.cpu_set.CpuSet.put.Goals as goal

pub returns : goal.returns
unfolding has
returns c =
    let four : length c.args.self.now.words ≡ 4 = search rules in
    let below = c.requires in
    λ other. put_bits c.args.self.now.words c.args.cpu other (omega (arith, four, below))

use Rattle.std.proofs.Common.{arith}
use Rattle.hp_states.proofs.CpuSetLowest.{no_bit, lowest}
use Rattle.hp_states.proofs.cpu_set.lowest_bit.Goals as goal

pub returns-then-rest-eq0-clause-none : goal.returns-then-rest-eq0-clause-none
returns-then-rest-eq0-clause-none c = no_bit c.args.word c.args.from c.if-rest-eq0.true

pub returns-clause-some : goal.returns-clause-some
returns-clause-some c =
    lowest c.args.word c.args.from c.ranges.word.fits c.requires (let h = c.if-rest-eq0.false in omega (arith, h))

use Rattle.hp_smt.proofs.Sets.{lowest_said}
use Rattle.hp_smt.proofs.setting.lowest_of.Goals as goal

pub returns : goal.returns
returns c = lowest_said c.args.set.now c.first_from.result c.first_from.ensures.some c.first_from.ensures.none

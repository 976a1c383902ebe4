use Rattle.hp_model.proofs.SetLemmas.{lists_some}
use Rattle.hp_script.proofs.ranges.lists_one.Goals as goal

pub returns : goal.returns
returns c = lists_some c.args.set.now c.is_empty.result c.is_empty.ensures.empty c.is_empty.ensures.some

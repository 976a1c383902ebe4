use Rattle.hp_model.proofs.KeyLaw.{keys_rise_and_count}
use Rattle.hp_model.proofs.keys_in_force.Goals as goal

pub returns : goal.returns
returns c = keys_rise_and_count c.args.events.now c.args.cpu

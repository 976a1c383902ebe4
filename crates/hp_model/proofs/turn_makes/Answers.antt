use Rattle.hp_model.proofs.TurnsMake.{turns_make}
use Rattle.hp_model.proofs.turn_makes.Goals as goal

pub returns : goal.returns
returns c = λ actors seats script seat. turns_make c.args.head.now actors seats seat script

use Rattle.hp_model.proofs.OverStays.{turns_stay}
use Rattle.hp_model.proofs.over_stays.Goals as goal

pub returns : goal.returns
returns c = λ actors seats script seat. turns_stay c.args.head.now actors seats seat script

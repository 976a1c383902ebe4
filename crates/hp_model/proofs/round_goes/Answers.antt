use Rattle.hp_model.proofs.RoundsEnd.{turns_go_on, turns_bounded}
use Rattle.hp_model.proofs.round_goes.Goals as goal

pub returns-clause-on : goal.returns-clause-on
returns-clause-on c = λ actors seats. turns_go_on c.args.head.now actors seats

pub returns-clause-bounded : goal.returns-clause-bounded
returns-clause-bounded c = λ actors seats. turns_bounded c.args.head.now actors seats

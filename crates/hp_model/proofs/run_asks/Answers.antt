use Rattle.hp_model.proofs.TurnsMake.{run_asks}
use Rattle.hp_model.proofs.run_asks.Goals as goal

pub returns : goal.returns
returns c = λ actors seats script actor. run_asks c.args.head.now actors seats actor c.args.op.now script

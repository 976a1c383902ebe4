use Rattle.hp_model.proofs.RoundsEnd.{run_ends}
use Rattle.hp_model.proofs.run_ends.Goals as goal

pub returns : goal.returns
returns c = λ actors schedule. run_ends c.args.head.now actors schedule

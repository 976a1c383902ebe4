use Rattle.hp_reg.proofs.Steps.{begun, few_calls}
use Rattle.hp_reg.proofs.reg.Reg.begin.Goals as goal

pub returns-clause-after : goal.returns-clause-after
returns-clause-after c key cpus rising = begun c.args.op c.args.state key cpus rising

pub returns-clause-few : goal.returns-clause-few
returns-clause-few c key cpus = few_calls c.args.op c.args.state key cpus

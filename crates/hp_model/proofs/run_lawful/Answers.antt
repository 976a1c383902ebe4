use Rattle.hp_model.proofs.ScriptRuns.{run_lawful}
use Rattle.hp_model.proofs.run_lawful.Goals as goal

pub returns : goal.returns
returns c = λ head_is run. run_lawful c.args.head.now run.0 run.1 c.args.events.now head_is run.2 run.3

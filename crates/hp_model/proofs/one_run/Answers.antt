use Rattle.hp_model.proofs.ScriptRuns.{one_run}
use Rattle.hp_model.proofs.one_run.Goals as goal

pub returns : goal.returns
returns c = λ actors schedule. one_run c.args.head.now actors schedule c.args.one.now c.args.other.now

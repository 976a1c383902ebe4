use Rattle.hp_smt.proofs.Runs.{one_smt_run}
use Rattle.hp_smt.proofs.run.one_smt_run.Goals as goal

pub returns : goal.returns
returns c = λ one other actors want. one_smt_run c.args.head.now c.args.threads actors want one other

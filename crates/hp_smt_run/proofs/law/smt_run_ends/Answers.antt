use Rattle.hp_smt_run.proofs.Ending.{smt_run_ends}
use Rattle.hp_smt_run.proofs.law.smt_run_ends.Goals as goal

pub returns : goal.returns
returns c = λ actors. smt_run_ends c.args.head.now c.args.threads c.args.want actors

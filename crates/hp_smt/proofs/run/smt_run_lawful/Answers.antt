use Rattle.hp_model.proofs.HeadlineProof.{headline}
use Rattle.hp_smt.proofs.Runs.{smt_run_lawful}
use Rattle.hp_smt.proofs.run.smt_run_lawful.Goals as goal

pub returns-clause-lawful : goal.returns-clause-lawful
returns-clause-lawful c = λ actors at hd few run. smt_run_lawful c.args.head.now c.args.threads actors c.args.want at hd few run

pub returns-clause-headline : goal.returns-clause-headline
returns-clause-headline c = λ actors at hd few run.
    headline c.args.head.now at.run.events (smt_run_lawful c.args.head.now c.args.threads actors c.args.want at hd few run)

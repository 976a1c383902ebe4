use Rattle.hp_pcount.proofs.Stepping.{sums_accepted}
use Rattle.hp_pcount.proofs.law.total_is_of_the_accepted.Goals as goal

pub returns : goal.returns
returns c = sums_accepted c.args.head.now c.args.state c.args.batch c.args.steps.now

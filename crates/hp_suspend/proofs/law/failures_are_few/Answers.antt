use Rattle.hp_suspend.proofs.Few.{thawing_few, booting_few, batching_few}
use Rattle.hp_suspend.proofs.law.failures_are_few.Goals as goal

pub returns-clause-thaw : goal.returns-clause-thaw
returns-clause-thaw c = thawing_few c.args.events.now

pub returns-clause-boot : goal.returns-clause-boot
returns-clause-boot c = booting_few c.args.events.now

pub returns-clause-batch : goal.returns-clause-batch
returns-clause-batch c head entered = batching_few head entered c.args.events.now

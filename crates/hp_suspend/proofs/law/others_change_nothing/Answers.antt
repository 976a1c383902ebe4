use Rattle.hp_suspend.proofs.Quiet.{freezing_quiet, thawing_quiet, booting_quiet, batching_quiet}
use Rattle.hp_suspend.proofs.law.others_change_nothing.Goals as goal

pub returns-clause-freeze : goal.returns-clause-freeze
returns-clause-freeze c = freezing_quiet c.args.event.now c.requires

pub returns-clause-thaw : goal.returns-clause-thaw
returns-clause-thaw c = thawing_quiet c.args.event.now c.requires

pub returns-clause-boot : goal.returns-clause-boot
returns-clause-boot c = booting_quiet c.args.event.now c.requires

pub returns-clause-batch : goal.returns-clause-batch
returns-clause-batch c = batching_quiet c.args.event.now c.requires

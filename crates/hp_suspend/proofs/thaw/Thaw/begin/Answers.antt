use Rattle.std.proofs.Common.{refl}
use Rattle.hp_event.specs.declared.op.Op.TheVariants as op
use Rattle.hp_suspend.proofs.Taking.{thawing_begins}
use Rattle.hp_suspend.proofs.thaw.Thaw.begin.Goals as goal

pub returns-clause-thawing : goal.returns-clause-thawing
returns-clause-thawing c before seat = thawing_begins _ refl before seat op.Thaw

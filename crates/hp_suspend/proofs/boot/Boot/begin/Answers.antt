use Rattle.std.proofs.Common.{refl}
use Rattle.hp_event.specs.declared.op.Op.TheVariants as op
use Rattle.hp_suspend.proofs.Taking.{booting_begins}
use Rattle.hp_suspend.proofs.boot.Boot.begin.Goals as goal

pub returns-clause-booting : goal.returns-clause-booting
returns-clause-booting c before seat = booting_begins _ c.args.max refl refl refl before seat (op.Boot c.args.max)

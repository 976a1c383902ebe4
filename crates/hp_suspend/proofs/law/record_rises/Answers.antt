use Rattle.hp_suspend.proofs.SequenceKept.{record_rises}
use Rattle.hp_suspend.proofs.law.record_rises.Goals as goal

pub returns : goal.returns
returns c = record_rises c.args.head.now c.args.events.now

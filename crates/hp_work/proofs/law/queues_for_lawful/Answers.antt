use Rattle.hp_work.proofs.Following.{queues_lawful}
use Rattle.hp_work.proofs.law.queues_for_lawful.Goals as goal

pub returns : goal.returns
returns c = queues_lawful c.args.head.now c.args.events.now

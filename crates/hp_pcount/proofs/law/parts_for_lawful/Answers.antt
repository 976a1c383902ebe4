use Rattle.hp_pcount.proofs.Stepping.{parts_lawful}
use Rattle.hp_pcount.proofs.law.parts_for_lawful.Goals as goal

pub returns : goal.returns
returns c = parts_lawful c.args.head.now c.args.events.now

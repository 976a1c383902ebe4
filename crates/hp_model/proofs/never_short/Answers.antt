use Rattle.hp_model.proofs.RoomKept.{event_fits, event_promised}
use Rattle.hp_model.proofs.never_short.Goals as goal

pub returns-clause-fits : goal.returns-clause-fits
returns-clause-fits c = event_fits c.args.head.now c.args.before.now c.args.event.now

pub returns-clause-promised : goal.returns-clause-promised
returns-clause-promised c = event_promised c.args.head.now c.args.before.now c.args.event.now

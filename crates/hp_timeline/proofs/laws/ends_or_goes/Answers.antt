use Rattle.hp_timeline.proofs.EndLaws.{ends_or_goes}
use Rattle.hp_timeline.proofs.laws.ends_or_goes.Goals as goal

pub returns : goal.returns
returns c = ends_or_goes c.args.head.now c.args.events.now c.args.window

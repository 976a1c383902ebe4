use Rattle.hp_timeline.proofs.PointLaws.{are_apart}
use Rattle.hp_timeline.proofs.laws.apart.Goals as goal

pub returns : goal.returns
returns c = are_apart c.args.window

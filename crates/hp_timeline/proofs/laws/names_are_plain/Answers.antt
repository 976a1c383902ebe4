use Rattle.hp_timeline.proofs.PointLaws.{plain_names}
use Rattle.hp_timeline.proofs.laws.names_are_plain.Goals as goal

pub returns : goal.returns
returns c = plain_names c.args.head.now

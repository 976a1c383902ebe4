use Rattle.hp_live.proofs.StandsStill.{stands_still}
use Rattle.hp_live.proofs.laws.stands_still.Goals as goal

pub returns : goal.returns
returns c = λ before lawful reads less cpu. stands_still c.args.head.now c.args.seat before c.args.front.now c.args.rest.now lawful reads less cpu

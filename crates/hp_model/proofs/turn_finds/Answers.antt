use Rattle.hp_model.proofs.TurnFinds.{turn_finds}
use Rattle.hp_model.proofs.FindsOne.{finds_one}
use Rattle.hp_model.proofs.turn_finds.Goals as goal

pub returns-clause-some : goal.returns-clause-some
returns-clause-some c = λ p. turn_finds c.args.head.now c.args.events.now p

pub returns-clause-one : goal.returns-clause-one
returns-clause-one c = λ p. finds_one c.args.head.now c.args.events.now p

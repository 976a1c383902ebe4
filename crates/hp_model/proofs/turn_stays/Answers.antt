use Rattle.hp_model.proofs.OneNext.{owners}
use Rattle.hp_model.proofs.TurnStays.{turn_stays}
use Rattle.hp_model.proofs.turn_stays.Goals as goal

pub returns : goal.returns
returns c =
    λ lawful o cpu comes held many apart turn.
    turn_stays c.args.head.now c.args.before.now c.args.event.now o cpu (owners c.args.head.now c.args.before.now lawful) comes held many
    apart turn

use Rattle.hp_model.proofs.SomeMoves.{some_moves}
use Rattle.hp_model.proofs.some_seat_can_move.Goals as goal

pub returns : goal.returns
returns c = λ lawful pending. some_moves c.args.head.now c.args.events.now pending lawful

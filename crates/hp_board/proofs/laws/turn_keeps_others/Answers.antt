use Rattle.hp_board.proofs.AskAgain.{turn_keeps}
use Rattle.hp_board.proofs.laws.turn_keeps_others.Goals as goal

pub returns : goal.returns
returns c = λ old new turn other. turn_keeps old new c.args.seat c.args.by c.args.op c.args.turn.now turn other

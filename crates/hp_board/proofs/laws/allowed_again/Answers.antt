use Rattle.hp_board.proofs.AskAgain.{allowed_again}
use Rattle.hp_board.proofs.laws.allowed_again.Goals as goal

pub returns : goal.returns
returns c = λ old new lawful allowed turn.
    allowed_again old new (record { seat = c.args.by; op = c.args.op }) c.args.turn.now lawful allowed turn

use Rattle.hp_board.proofs.AskAgain.{serve_keeps}
use Rattle.hp_board.proofs.laws.serve_keeps_others.Goals as goal

pub returns : goal.returns
returns c = λ old new served other. serve_keeps old new c.args.seat c.args.by c.args.turn.now served other

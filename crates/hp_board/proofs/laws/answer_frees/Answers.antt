use Rattle.hp_board.proofs.GoesOn.{answer_frees}
use Rattle.hp_board.proofs.laws.answer_frees.Goals as goal

pub returns : goal.returns
returns c = λ lawful stands answers. answer_frees c.args.head.now c.args.events.now c.args.event.now lawful stands.0 answers

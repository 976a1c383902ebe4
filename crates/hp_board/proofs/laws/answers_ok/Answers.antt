use Rattle.hp_board.proofs.Complete.{answers_ok}
use Rattle.hp_board.proofs.laws.answers_ok.Goals as goal

pub returns : goal.returns
returns c = λ old new lawful allowed nothing turn.
    answers_ok old new (record { seat = c.args.by; op = c.args.op }) c.args.at c.args.answer lawful allowed nothing turn

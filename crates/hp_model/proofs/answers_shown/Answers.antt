use Rattle.hp_model.proofs.AnswersShown.{answers_shown}
use Rattle.hp_model.proofs.answers_shown.Goals as goal

pub returns : goal.returns
returns c = λ actors seats script actor. answers_shown c.args.head.now actors seats actor script

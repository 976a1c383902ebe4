use Rattle.hp_print.proofs.NameText.{unescaped}
use Rattle.hp_print.proofs.law.names_are_unescaped.Goals as goal

pub returns : goal.returns
returns c = λ is number. unescaped c.args.head.now number is

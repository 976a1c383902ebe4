use Rattle.hp_text.proofs.SubLaws.{sub_spelled}
use Rattle.hp_text.proofs.subs.sub.Goals as goal

pub returns-clause-spelled : goal.returns-clause-spelled
returns-clause-spelled g c = sub_spelled (g.W.Words.left c.args.words.now) c.any_sub.result c.any_sub.ensures

use Rattle.hp_replay.proofs.TextLaws.{line_says_one as says_one}
use Rattle.hp_replay.proofs.laws.line_says_one.Goals as goal

pub returns : goal.returns
returns c = λ v f s g t e. says_one v c.args.one.now c.args.other.now f s g t e

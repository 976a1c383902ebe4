use Rattle.hp_replay.proofs.TextLaws.{text_says_one as says_one}
use Rattle.hp_replay.proofs.laws.text_says_one.Goals as goal

pub returns : goal.returns
returns c = λ v j k e. says_one v c.args.one.now c.args.other.now c.args.events.now c.args.others.now j k e

use Rattle.hp_model.proofs.OneNext.{one_next}
use Rattle.hp_model.proofs.one_next.Goals as goal

pub returns : goal.returns
returns c = one_next c.args.head.now c.args.before.now c.args.op.now c.args.one.now c.args.other.now

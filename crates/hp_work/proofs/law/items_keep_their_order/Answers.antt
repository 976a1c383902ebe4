use Rattle.hp_work.proofs.Between.{keeps_order}
use Rattle.hp_work.proofs.law.items_keep_their_order.Goals as goal

pub returns : goal.returns
returns c = keeps_order c.args.state c.args.cpu c.args.before.now c.args.between.now c.args.behind.now

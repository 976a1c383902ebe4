use Rattle.hp_suspend.proofs.Batched.{next_left}
use Rattle.hp_suspend.proofs.batch.Batch.next.Goals as goal

pub returns : goal.returns
returns c =
    λ head events o set lawful held asked is.
    next_left c.args.self.now c.first_from.result head events o set held asked is c.first_from.ensures.some c.first_from.ensures.none

use Rattle.hp_account.proofs.OperationMore.{single_walks, batch_walks}
use Rattle.hp_account.proofs.operation.MapOperation.began.Goals as goal

pub returns-in-Batch : goal.returns-in-Batch
returns-in-Batch c = λ head events seat from to lawful comes is.
    batch_walks head events seat c.args.cpu from to c.args.self.now c.in-Batch.batch c.began.new.self lawful comes c.in-Batch.is
    (λ o set held asked b first. c.began.ensures.batching head events o set seat from to lawful held asked b first) is

pub returns-in_default : goal.returns-in_default
returns-in_default c = λ head events seat from to lawful comes is.
    single_walks head events seat c.args.cpu from to c.args.self.now c.in_default.not-Batch is

use Rattle.std.proofs.Common.{refl}
use Rattle.hp_suspend.proofs.Batched.{batch_began}
use Rattle.hp_suspend.proofs.batch.Batch.began.Goals as goal

pub returns : goal.returns
returns c = record {
  batching = λ head events o set seat stood to lawful held asked is first.
      batch_began c.args.self.now _ c.args.cpu c.take.ensures refl refl head o.before events set seat stood to is;
  left = c.take.ensures;
  begun = refl;
}

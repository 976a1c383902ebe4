use Rattle.hp_model.proofs.NextGives.{full_exactly}
use Rattle.hp_model.proofs.is_full.Goals as goal

pub returns : goal.returns
returns c = λ p. full_exactly c.args.head.now c.args.events.now p

use Rattle.hp_replay.proofs.EventAgain.{event_at_again}
use Rattle.hp_replay.proofs.laws.event_is_read.Goals as goal

pub returns : goal.returns
returns c = λ v n u f s. event_at_again v n c.args.event.now u f s

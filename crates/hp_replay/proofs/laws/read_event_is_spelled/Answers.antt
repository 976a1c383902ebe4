use Rattle.hp_replay.proofs.EventTakes.{event_at_takes}
use Rattle.hp_replay.proofs.laws.read_event_is_spelled.Goals as goal

pub returns : goal.returns
returns c = λ v said h. event_at_takes v c.args.line.now said h

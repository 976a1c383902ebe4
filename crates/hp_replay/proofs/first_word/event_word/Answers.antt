use Rattle.hp_replay.specs.FirstWords.{event_word_of}
use Rattle.hp_replay.proofs.first_word.event_word.Goals as goal

pub returns : goal.returns
unfolding event_word_of
returns c = c.find_word.ensures

use Rattle.std.proofs.Common.{ap}
use Rattle.hp_trace.specs.Pieces.{words_of, that_say}
use Rattle.hp_trace.proofs.pieces.Words.of.Goals as goal

pub returns : goal.returns
unfolding words_of
returns c = ap that_say c.of.ensures

use Rattle.hp_trace_walk.proofs.EntryLaws.{entry_gives, open_gives}
use Rattle.hp_trace_walk.proofs.law.entries_are_exact.Goals as goal

pub returns : goal.returns
returns c = λ asks. (entry_gives asks, open_gives asks)

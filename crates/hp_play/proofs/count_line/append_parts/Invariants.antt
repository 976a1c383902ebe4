use Rattle.std.proofs.Common.{◌≡◌, ◌++◌}
use Rattle.hp_model.specs.Words.{spaced}
use Rattle.hp_play.specs.CountLine.{part_words}
use Rattle.hp_play.proofs.count_line.append_parts.Given as goal

abbrev pub invariant-loop-cpu : goal.invariant-loop-cpu
invariant-loop-cpu l = l.out.items ≡ l.initial.out.items ++ spaced (part_words l.counters l.cpu)

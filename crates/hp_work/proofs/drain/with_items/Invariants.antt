use Rattle.std.proofs.Common.{◌≡◌}
use Rattle.hp_work.proofs.Draining.{items_below}
use Rattle.hp_work.proofs.drain.with_items.Given as goal

abbrev pub invariant-loop-cpu : goal.invariant-loop-cpu
invariant-loop-cpu l = l.cpus.items ≡ items_below l.cpu l.lists

use Rattle.std.proofs.Common.{◌≡◌, take, map, length}
use Rattle.hp_work.specs.Drained.{queue_in}
use Rattle.hp_work.proofs.drain.collected.Given as goal

abbrev pub invariant-loop-queue : goal.invariant-loop-queue
invariant-loop-queue g l = l.queues.items ≡ map (queue_in l.lists) (take (length l.yielded) l.cpus)

use Rattle.std.proofs.Common.{◌≡◌, ◌++◌, take, flat_map}
use Rattle.hp_run.specs.WorkLines.{drained_line}
use Rattle.hp_run.proofs.work_lines.append_queues.Given as goal

abbrev pub invariant-loop-queue : goal.invariant-loop-queue
invariant-loop-queue l = l.out.items ≡ l.fn.out.items ++ flat_map drained_line (take l.queue-index l.queues)

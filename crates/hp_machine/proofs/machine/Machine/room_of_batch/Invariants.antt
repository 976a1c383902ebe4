use Rattle.std.proofs.Common.{◌≡◌, ◌*◌, ◌≤◌}
use Rattle.hp_states.specs.CpuSets.{has}
use Rattle.hp_table.specs.Keys.{keys_by}
use Rattle.hp_machine.proofs.BatchNeed.{summed}
use Rattle.hp_machine.proofs.machine.Machine.room_of_batch.Given as goal

abbrev pub invariant-loop-cpu : goal.invariant-loop-cpu
invariant-loop-cpu g l =
    (l.sum ≡ summed (keys_by l.self-inside.table) (λ c. has l.batch.left c) l.settled l.cpu) × (l.sum ≤ 12895 * l.cpu)

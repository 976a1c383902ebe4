use Rattle.std.proofs.Common.{◌≡◌, ◌≤◌, length}
use Rattle.hp_actors.proofs.Admissions.{present_below}
use Rattle.hp_actors.proofs.seating.present_count.Given as goal

abbrev pub invariant-loop-cpu : goal.invariant-loop-cpu
invariant-loop-cpu l =
    record {
      counted : l.count ≡ length (present_below l.head l.cpu);
      few : l.count ≤ l.cpu;
    }

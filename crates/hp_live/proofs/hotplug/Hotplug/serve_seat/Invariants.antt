use Rattle.hp_live.specs.Known.{IsSamePass, IsThread}
use Rattle.hp_live.specs.Threads.{Enters}
use Rattle.hp_live.proofs.hotplug.Hotplug.serve_seat.Given as goal

abbrev pub invariant-loop : goal.invariant-loop
invariant-loop g l =
    record {
      same : IsSamePass l.initial.own l.own;
      thread : IsThread l.own.seat l.own.front;
      enters : Enters l.initial.own.seat l.initial.own.front l.own.front;
    }

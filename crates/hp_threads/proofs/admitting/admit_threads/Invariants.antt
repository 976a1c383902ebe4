use Rattle.std.proofs.Common.{map}
use Rattle.hp_event.specs.declared.event.Role.TheVariants.{Ap}
use Rattle.hp_live.specs.Known.{IsOf}
use Rattle.hp_threads.specs.Admitting.{HaveEntered}
use Rattle.hp_threads.proofs.Numbers.{present_below}
use Rattle.hp_threads.proofs.admitting.admit_threads.Given as goal

abbrev pub invariant-loop-cpu : goal.invariant-loop-cpu
invariant-loop-cpu g l =
    record {
      own : IsOf l.machine l.root.lock;
      entered : HaveEntered l.initial.root l.root (map Ap (present_below l.head l.cpu)) l.passes.items;
    }

use Rattle.std.proofs.Common.{◌≡◌, All}
use Rattle.std.specs.Vec.Iter.{into_iter_items}
use Rattle.hp_live.specs.Known.{IsOf}
use Rattle.hp_threads.specs.Jobs.{CanServe}
use Rattle.hp_threads.proofs.Meeting.{Leaving}
use Rattle.hp_threads.proofs.ending.leave_all.Given as goal

abbrev pub invariant-loop-pass : goal.invariant-loop-pass
invariant-loop-pass g l =
    record {
      can_next : (goal.iterator-loop-pass g).can_next l.pass-iterator;
      is_finite : (goal.iterator-loop-pass g).is_finite l.pass-iterator;
      own : IsOf l.machine l.root.lock;
      same : (l.root.lock ≡ l.initial.root.lock) × (l.root.head ≡ l.initial.root.head);
      ready : All (CanServe l.machine) (into_iter_items l.pass-iterator);
      leaving : Leaving l.fn.passes.items (into_iter_items l.pass-iterator) l.initial.root.front l.root.front;
    }

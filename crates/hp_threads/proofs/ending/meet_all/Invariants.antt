use Rattle.std.proofs.Common.{◌≡◌, true, None, All}
use Rattle.std.specs.Vec.Iter.{into_iter_items}
use Rattle.hp_live.specs.Known.{IsOf}
use Rattle.hp_turn.specs.Story.{Knows}
use Rattle.hp_threads.proofs.Meeting.{IsHeld, Met}
use Rattle.hp_threads.proofs.ending.meet_all.Given as goal

abbrev pub invariant-loop-left : goal.invariant-loop-left
invariant-loop-left g l =
    record {
      can_next : (goal.iterator-loop-left g).can_next l.left-iterator;
      is_finite : (goal.iterator-loop-left g).is_finite l.left-iterator;
      own : IsOf l.machine l.root.lock;
      same : (l.root.lock ≡ l.initial.root.lock) × (l.root.head ≡ l.initial.root.head);
      ready : All (IsHeld l.machine) (into_iter_items l.left-iterator);
      begins : Knows None true l.initial.root.front l.root.front;
      met : Met l.fn.lefts.items (into_iter_items l.left-iterator) l.root.front;
    }

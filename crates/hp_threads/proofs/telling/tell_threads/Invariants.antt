use Rattle.std.proofs.Common.{◌≡◌, All}
use Rattle.std.specs.Vec.Iter.{into_iter_items}
use Rattle.hp_threads.specs.Admitting.{IsSeated}
use Rattle.hp_threads.proofs.Hearing.{Telling}
use Rattle.hp_threads.proofs.telling.tell_threads.Given as goal

abbrev pub invariant-loop-pass : goal.invariant-loop-pass
invariant-loop-pass g l =
    record {
      can_next : (goal.iterator-loop-pass g).can_next l.pass-iterator;
      is_finite : (goal.iterator-loop-pass g).is_finite l.pass-iterator;
      root : l.root ≡ l.initial.root;
      ready : All (IsSeated l.initial.root.lock l.initial.root.head) (into_iter_items l.pass-iterator);
      telling : Telling l.initial.root.front l.fn.passes.items (into_iter_items l.pass-iterator) l.told.items;
    }

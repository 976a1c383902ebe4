use Rattle.std.proofs.Common.{◌≡◌, ◌++◌, All, map}
use Rattle.std.specs.Vec.Iter.{into_iter_items}
use Rattle.hp_threads.specs.Admitting.{IsSeated, asks_in, pass_in}
use Rattle.hp_threads.proofs.Hearing.{Telling}
use Rattle.hp_threads.proofs.telling.tell_actors.Given as goal

abbrev pub invariant-loop-job : goal.invariant-loop-job
invariant-loop-job g l =
    record {
      can_next : (goal.iterator-loop-job g).can_next l.job-iterator;
      is_finite : (goal.iterator-loop-job g).is_finite l.job-iterator;
      root : l.root ≡ l.initial.root;
      ready : All (IsSeated l.initial.root.lock l.initial.root.head) (map pass_in (into_iter_items l.job-iterator));
      telling :
          Telling l.initial.root.front (map pass_in l.fn.jobs.items) (map pass_in (into_iter_items l.job-iterator))
          (map pass_in l.told.items);
      asks : (map asks_in l.told.items ++ map asks_in (into_iter_items l.job-iterator)) ≡ map asks_in l.fn.jobs.items;
    }

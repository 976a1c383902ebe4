use Rattle.std.proofs.Common.{◌≡◌, ◌++◌}
use Rattle.std.specs.Vec.Iter.{into_iter_items}
use Rattle.hp_actors.specs.Actors.{own_hooks}
use Rattle.hp_actors.proofs.actor.give_asks.Given as goal

abbrev pub invariant-loop-ask : goal.invariant-loop-ask
invariant-loop-ask g l =
    record {
      can_next : (goal.iterator-loop-ask g).can_next l.ask-iterator;
      is_finite : (goal.iterator-loop-ask g).is_finite l.ask-iterator;
      all :
          l.rack.hooks.items ++ own_hooks (into_iter_items l.ask-iterator)
          ≡ l.fn.rack.hooks.items ++ own_hooks l.fn.asks.items;
    }

use Rattle.std.proofs.Common.{◌≡◌, ◌++◌}
use Rattle.std.specs.List.{flat_map}
use Rattle.std.specs.Vec.Iter.{into_iter_items}
use Rattle.hp_actors.specs.Actors.{own_hooks}
use Rattle.hp_actors.proofs.finish.give_back.Given as goal

abbrev pub invariant-loop-actor : goal.invariant-loop-actor
invariant-loop-actor g l =
    record {
      can_next : (goal.iterator-loop-actor g).can_next l.actor-iterator;
      is_finite : (goal.iterator-loop-actor g).is_finite l.actor-iterator;
      all :
          l.rack.hooks.items
          ++ flat_map (λ actor. own_hooks actor.asks) (into_iter_items l.actor-iterator)
          ≡ l.fn.rack.hooks.items
          ++ flat_map (λ actor. own_hooks actor.asks) l.fn.actors.items;
    }

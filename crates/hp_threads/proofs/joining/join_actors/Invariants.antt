use Rattle.std.proofs.Common.{◌≤◌, ◌+◌, length, vec_capacity}
use Rattle.std.specs.Vec.Iter.{into_iter_items}
use Rattle.hp_threads.proofs.Pairing.{Joined}
use Rattle.hp_threads.proofs.joining.join_actors.Given as goal

abbrev pub invariant-loop-actor : goal.invariant-loop-actor
invariant-loop-actor g l =
    record {
      can_next : (goal.iterator-loop-actor g).can_next l.actor-iterator;
      is_finite : (goal.iterator-loop-actor g).is_finite l.actor-iterator;
      joined : Joined l.fn.actors.items (into_iter_items l.actor-iterator) l.lefts.items;
      room : length l.lefts.items + length (into_iter_items l.actor-iterator) ≤ vec_capacity l.lefts;
    }

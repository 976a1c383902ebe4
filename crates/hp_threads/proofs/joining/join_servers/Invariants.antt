use Rattle.std.proofs.Common.{◌≤◌, ◌+◌, length, vec_capacity}
use Rattle.std.specs.Vec.Iter.{into_iter_items}
use Rattle.hp_threads.proofs.Pairing.{Back}
use Rattle.hp_threads.proofs.joining.join_servers.Given as goal

abbrev pub invariant-loop-server : goal.invariant-loop-server
invariant-loop-server g l =
    record {
      can_next : (goal.iterator-loop-server g).can_next l.server-iterator;
      is_finite : (goal.iterator-loop-server g).is_finite l.server-iterator;
      back : Back l.fn.servers.items (into_iter_items l.server-iterator) l.passes.items;
      room : length l.passes.items + length (into_iter_items l.server-iterator) ≤ vec_capacity l.passes;
    }

use Rattle.std.specs.Prelude.{◌≡◌, ◌++◌}
use Rattle.hp_caches.proofs.stock.append.Given as goal

abbrev pub invariant-loop-item : goal.invariant-loop-item
invariant-loop-item l =
    record {
      can_next : goal.iterator-loop-item.can_next l.item-iterator;
      is_finite : goal.iterator-loop-item.is_finite l.item-iterator;
      rest : l.items.items ++ l.item-iterator ≡ l.initial.items.items ++ l.list;
    }

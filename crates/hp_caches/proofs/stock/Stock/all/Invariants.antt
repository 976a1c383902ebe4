use Rattle.std.specs.Prelude.{◌≡◌, ◌++◌, take}
use Rattle.std.specs.List.{flat_map}
use Rattle.hp_caches.specs.Contents.{items_of}
use Rattle.hp_caches.proofs.stock.Stock.all.Given as goal

abbrev pub invariant-loop-cpu : goal.invariant-loop-cpu
invariant-loop-cpu l =
    l.items.items ≡ l.self.taken ++ (l.self.list ++ flat_map items_of (take l.cpu l.self.caches))

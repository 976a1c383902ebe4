use Rattle.std.specs.Prelude.{◌≡◌, replicate}
use Rattle.hp_caches.specs.Contents.{shut}
use Rattle.hp_caches.proofs.stock.Stock.new.Given as goal

abbrev pub invariant-loop : goal.invariant-loop
invariant-loop l = l.caches.items ≡ replicate l.counter shut

use Rattle.std.proofs.Common.{◌≡◌, ◌++◌, ◌-◌, map}
use Rattle.std.specs.Prelude.{All, IsSome}
use Rattle.slab.specs.Slab.{get}
use Rattle.hp_work.specs.Chained.{keys_from, item_at, items_of, chain_at}
use Rattle.hp_work.proofs.chains.Chains.items.Given as goal

abbrev pub invariant-loop : goal.invariant-loop
invariant-loop l = record {
  so_far : l.items.items ++ map (item_at l.self-inside.nodes) (keys_from l.self-inside.nodes (l.end - l.counter) l.key)
      ≡ items_of l.self-inside.nodes (chain_at l.self-inside.chains l.place);
  there : All (λ k. IsSome (get l.self-inside.nodes k)) (keys_from l.self-inside.nodes (l.end - l.counter) l.key);
}

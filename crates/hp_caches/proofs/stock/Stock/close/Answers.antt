use Rattle.std.proofs.Common.{arith}
use Rattle.hp_caches.specs.Inside.{contents}
use Rattle.hp_caches.proofs.Weighing.{few}
use Rattle.hp_caches.proofs.stock.Stock.close.Goals as goal

pub prove-unreachable-requires : goal.prove-unreachable-requires
prove-unreachable-requires c =
    let few_are = few (contents c.self.inside) c.args.cpu c.self.invariant in
    let small = c.self.inside.put.small in
    let value = c.in-Some.ensures.value in
    grind (arith, few_are, small, value, c.append-moved.ensures.succeeds, c.is_ok.ensures.value, c.if-prove.true)

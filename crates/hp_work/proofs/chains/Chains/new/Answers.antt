use Rattle.hp_work.proofs.Chaining.{made_none}
use Rattle.hp_work.proofs.chains.Chains.new.Goals as goal

pub invariant_of-result : goal.invariant_of-result
invariant_of-result c =
    let e = c.in_ok-with_capacity.ensures in
    (made_none c.in_ok-with_capacity.field-0 e.empty e.capacity).chained

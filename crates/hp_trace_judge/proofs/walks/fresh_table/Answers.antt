use Rattle.std.proofs.Common.{refl}
use Rattle.hp_trace_judge.proofs.walks.fresh_table.Goals as goal

pub returns : goal.returns
returns c =
    let all = c.in_ok-vec.ensures.items_if_clones_equal (λ y same. cc) in
    rw (all, c.unknown.ensures) refl

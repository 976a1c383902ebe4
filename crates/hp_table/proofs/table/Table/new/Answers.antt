use Rattle.std.proofs.Common.{arith}
use Rattle.hp_table.proofs.Marked.{marked_none}
use Rattle.hp_table.proofs.Tables.{counted_empty}
use Rattle.hp_table.proofs.table.Table.new.Goals as goal

pub invariant_of-result : goal.invariant_of-result
invariant_of-result g c =
    rw c.loop.invariant.empty (record {
      counted = counted_empty c.loop.counter (omega (arith, c.loop.invariant.within));
      marked = marked_none c.loop.counter c.none.result c.none.ensures;
    })

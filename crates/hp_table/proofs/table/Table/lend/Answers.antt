use Rattle.std.proofs.Common.{rules}
use Rattle.hp_table.specs.Step.{lent_step}
use Rattle.hp_table.proofs.Placed.{none_by, none_changed}
use Rattle.hp_table.proofs.table.Table.lend.Goals as goal

pub returns-then-is_none-clause-lent : goal.returns-then-is_none-clause-lent
returns-then-is_none-clause-lent g c =
    none_changed c.args.self.now c.args.state lent_step
    (none_by c.registered.result _ c.registered.ensures.there (search rules))

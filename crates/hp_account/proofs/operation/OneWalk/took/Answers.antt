use Rattle.std.proofs.Common.{refl, rules}
use Rattle.hp_account.proofs.OperationMore.{single_took}
use Rattle.hp_account.proofs.operation.OneWalk.took.Goals as goal

pub returns-then-is_none : goal.returns-then-is_none
returns-then-is_none c = λ cpu to events seat of is.
    single_took cpu to events seat of c.args.answer _ _ is refl refl (search rules)

pub returns-else-is_none : goal.returns-else-is_none
returns-else-is_none c = λ cpu to events seat of is.
    single_took cpu to events seat of c.args.answer _ _ is refl refl (search rules)

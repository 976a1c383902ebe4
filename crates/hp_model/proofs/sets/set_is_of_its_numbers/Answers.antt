use Rattle.std.proofs.Common.{arith}
use Rattle.std.proofs.lemmas.Grind.{common_steps}
use Rattle.hp_model.specs.SetOf.{IsSet}
use Rattle.hp_model.proofs.SetLemmas.{of_listed}
use Rattle.hp_model.proofs.sets.set_is_of_its_numbers.Goals as goal

pub returns-clause-numbers : goal.returns-clause-numbers
returns-clause-numbers c =
    let held : IsSet c.args.set = grind (arith, common_steps) in
    of_listed c.args.set held

use Rattle.std.proofs.Common.{ℕ, List, get_or, ap}
use Rattle.hp_model.specs.OperationNumber.{operations_of}
use Rattle.hp_print.proofs.operation_numbers.OperationNumbers.new.Goals as goal

pub returns : goal.returns
unfolding operations_of
returns c = λ k. ap (λ (xs : List ℕ). get_or xs k 0) c.new.ensures.items

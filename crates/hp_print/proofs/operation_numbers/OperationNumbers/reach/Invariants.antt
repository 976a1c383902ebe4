use Rattle.std.proofs.Common.{◌≡◌, ℕ, ◌+◌, List, length, get_or}
use Rattle.hp_print.proofs.operation_numbers.OperationNumbers.reach.Given as goal

-- so many places more, each with none
pub record Longer (old new : List ℕ) (more : ℕ) : Type 0 where
  pub same : (k : ℕ) → get_or new k 0 ≡ get_or old k 0
  pub longer : length new ≡ length old + more

abbrev pub invariant-loop : goal.invariant-loop
invariant-loop l = Longer l.initial.self.begun.items l.self.begun.items l.counter

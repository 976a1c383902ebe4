use Rattle.std.proofs.Common.{◌≡◌, ℕ, Option, None, List, [], replicate}
use Rattle.hp_print.specs.declared.keys.KeyCount.{KeyCount}
use Rattle.hp_print.proofs.processor_tally.ProcessorTally.new.Given as goal

pub record Nothing (n : ℕ) (targets : List (Option ℕ)) (keys : List (List KeyCount)) : Type 0 where
  pub targets_are : targets ≡ replicate n None
  pub keys_are : keys ≡ replicate n []

abbrev pub invariant-loop : goal.invariant-loop
invariant-loop l = Nothing l.counter l.targets.items l.keys.items

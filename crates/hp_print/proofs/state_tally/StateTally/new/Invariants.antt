use Rattle.std.proofs.Common.{◌≡◌, ℕ, Option, None, List, [], replicate}
use Rattle.hp_print.proofs.state_tally.StateTally.new.Given as goal

pub record Nothing (n : ℕ) (subs : List (Option ℕ)) (insts : List (List ℕ)) : Type 0 where
  pub subs_are : subs ≡ replicate n None
  pub insts_are : insts ≡ replicate n []

abbrev pub invariant-loop : goal.invariant-loop
invariant-loop l = Nothing l.counter l.subs.items l.insts.items

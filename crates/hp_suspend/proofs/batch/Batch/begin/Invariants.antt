use Rattle.std.proofs.Common.{◌≡◌, ℕ, ◌&&◌, ltb, get_or}
use Rattle.hp_states.specs.CpuSets.{has}
use Rattle.hp_suspend.proofs.Batched.{is_of}
use Rattle.hp_suspend.proofs.batch.Batch.begin.Given as goal

abbrev pub invariant-loop-cpu : goal.invariant-loop-cpu
invariant-loop-cpu l = (c : ℕ) → has l.left c ≡ (ltb c l.cpu && is_of l.set (λ d. get_or l.settled d 0) c)

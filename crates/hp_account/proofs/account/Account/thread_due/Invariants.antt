use Rattle.std.specs.Prelude.{◌-◌, ◌≤◌}
use Rattle.hp_states.specs.declared.limits.TheConstants.{MAX_CPU_SET}
use Rattle.hp_account.specs.Batches.{NoneServed}
use Rattle.hp_account.proofs.account.Account.thread_due.Given as goal

abbrev pub invariant-loop-cpu : goal.invariant-loop-cpu
invariant-loop-cpu l = (l.from ≤ l.at) × NoneServed l.self l.from l.at

abbrev pub decreases-loop-cpu : goal.decreases-loop-cpu
decreases-loop-cpu l = MAX_CPU_SET - l.at

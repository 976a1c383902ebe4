use Rattle.std.proofs.Common.{◌+◌, ap}
use Rattle.hp_states.specs.declared.limits.TheConstants.{ONLINE}
use Rattle.hp_table.specs.Step.{is_home}
use Rattle.hp_table.proofs.HookCount.{vacant_of}
use Rattle.hp_machine.specs.Contents.{Contents}
use Rattle.hp_law.proofs.law.Law.start.Goals as goal

pub invariant_of-result : goal.invariant_of-result
invariant_of-result c =
    let m = c.in_ok-machine.machine in
    λ s. ap is_home (vacant_of m.places (ONLINE + 1) s (ap (λ (x : Contents). x.places) c.in_ok-machine.ensures.begins))

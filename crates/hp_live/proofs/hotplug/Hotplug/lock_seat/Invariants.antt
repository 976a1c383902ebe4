use Rattle.hp_live.proofs.ReadSteps.{Waited}
use Rattle.hp_live.proofs.hotplug.Hotplug.lock_seat.Given as goal

abbrev pub invariant-loop : goal.invariant-loop
invariant-loop g l = Waited l.initial.own l.own

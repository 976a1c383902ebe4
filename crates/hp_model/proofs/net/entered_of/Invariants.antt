use Rattle.std.proofs.Common.{◌≡◌, take}
use Rattle.hp_model.specs.Net.{entered}
use Rattle.hp_model.proofs.net.entered_of.Given as goal

abbrev pub invariant-loop-event : goal.invariant-loop-event
invariant-loop-event l = l.keys.items ≡ entered l.cpu (take l.event-index l.events)

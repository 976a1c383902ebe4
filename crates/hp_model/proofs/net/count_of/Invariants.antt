use Rattle.std.proofs.Common.{◌≡◌, ◌≤◌, take}
use Rattle.hp_model.specs.InForce.{done_entries}
use Rattle.hp_model.proofs.net.count_of.Given as goal

abbrev pub invariant-loop-event : goal.invariant-loop-event
invariant-loop-event l =
    (l.count ≡ done_entries l.cpu l.key.state l.key.inst l.dir (take l.event-index l.events)) × (l.count ≤ l.event-index)

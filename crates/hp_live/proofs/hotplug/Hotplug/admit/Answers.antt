use Rattle.hp_event.specs.declared.event.Role.TheVariants.{Client}
use Rattle.hp_live.proofs.Coming.{client_new, new_idle}
use Rattle.hp_live.proofs.hotplug.Hotplug.admit.Goals as goal

pub invariant_of-result-2 : goal.invariant_of-result-2
invariant_of-result-2 g c =
    client_new c.root.inside.sight.head c.root.inside.sight.front c.in_ok-sight.sight.front c.in_ok-sight.number
    c.in_ok-sight.ensures.admitted

pub returns-clause-idle : goal.returns-clause-idle
returns-clause-idle g c =
    new_idle c.root.inside.sight.head Client c.root.inside.sight.front c.in_ok-sight.sight.front c.in_ok-sight.number
    c.in_ok-sight.ensures.admitted

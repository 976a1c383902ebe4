use Rattle.hp_live.proofs.Coming.{thread_new}
use Rattle.hp_live.proofs.hotplug.Hotplug.admit_ap.Goals as goal

pub invariant_of-result-2 : goal.invariant_of-result-2
invariant_of-result-2 g c =
    thread_new c.root.inside.sight.head c.args.cpu c.root.inside.sight.front c.in_ok-sight.sight.front c.in_ok-sight.number
    c.in_ok-sight.ensures.admitted

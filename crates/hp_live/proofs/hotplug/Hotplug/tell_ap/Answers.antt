-- What the pass hears are events of others.
use Rattle.std.proofs.Common.{sym, subst}
use Rattle.hp_event.specs.declared.head.Head.{Head}
use Rattle.hp_model.specs.Lawful.{IsLawful}
use Rattle.hp_live.specs.Known.{IsThread}
use Rattle.hp_live.proofs.Coming.{thread_told}
use Rattle.hp_live.proofs.Finding.{seen_by}
use Rattle.hp_live.proofs.hotplug.Hotplug.tell_ap.Goals as goal

pub invariant_of-ap : goal.invariant_of-ap
invariant_of-ap g c =
    let own = c.ap-inside.inside.0.0 in
    let front = c.tell_sight.new.sight.front in
    thread_told own.sight.head own.number own.sight.front front
    (seen_by own.sight own.number front c.ap-inside.invariant.own c.tell_sight.ensures.knew)
    (subst (λ (h : Head). IsLawful h front) c.tell_sight.ensures.still.head c.sound.ensures)
    (subst (λ p. IsThread p.own.seat p.own.front) (sym c.ap-inside.view_is) c.ap.invariant)

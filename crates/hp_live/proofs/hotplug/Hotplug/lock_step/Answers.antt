-- The section of a client's seat that asks for a read section.
use Rattle.std.proofs.Common.{sym, subst}
use Rattle.hp_live.specs.Known.{IsOut, Seated}
use Rattle.hp_live.specs.ReadSections.{AsksIn}
use Rattle.hp_live.proofs.hotplug.Hotplug.lock_step.Goals as goal

pub lock_section-requires-clause-out : goal.lock_section-requires-clause-out
lock_section-requires-clause-out g c κs within =
    subst (λ (s : Seated). IsOut s.seat s.front) (sym c.own.view_is) c.requires.out

pub returns-clause-asks : goal.returns-clause-asks
returns-clause-asks g c =
    subst (λ (s : Seated). AsksIn s.head s.seat s.front c.lock_section.new.sight.front c.lock_section.result) c.own.view_is
    c.lock_section.ensures.asks

-- The section in which a reader's seat ends its read section.
use Rattle.std.proofs.Common.{subst}
use Rattle.hp_event.specs.declared.event.Event.TheVariants.{ReadUnlock}
use Rattle.hp_event.specs.declared.op.Op.TheVariants.{Unlock}
use Rattle.hp_live.specs.Known.{Seated}
use Rattle.hp_live.specs.ReadSections.{MakesIn}
use Rattle.hp_live.proofs.hotplug.Hotplug.unlock_step.Goals as goal

pub returns-clause-unlocked : goal.returns-clause-unlocked
returns-clause-unlocked g c =
    subst (λ (s : Seated). MakesIn s.head s.seat Unlock (ReadUnlock s.seat) s.front c.unlock_section.new.sight.front) c.own.view_is
    c.unlock_section.ensures.unlocked

-- A reader ends its read section.
use Rattle.std.proofs.Common.{pos, refl, subst}
use Rattle.hp_event.specs.declared.answer.Answer.TheVariants.{Ok as Done}
use Rattle.hp_event.specs.declared.event.Event.TheVariants.{ReadUnlock}
use Rattle.hp_event.specs.declared.op.Op.TheVariants.{Unlock}
use Rattle.hp_live.specs.ReadSections.{IsOnlineThroughout, Reader}
use Rattle.hp_live.specs.Runs.{AnsweredBy}
use Rattle.hp_live.proofs.ReadOnline.{unlocked_out, unlocked_throughout}
use Rattle.hp_live.proofs.ReadSteps.{makes_answered, made_idle}
use Rattle.hp_live.proofs.hotplug.Hotplug.read_unlock.Goals as goal

pub invariant_of-result : goal.invariant_of-result
invariant_of-result g c =
    unlocked_out c.read.inside.own c.unlock_step.new.own c.read.inside.online c.unlock_step.ensures.same c.read.invariant
    c.unlock_step.ensures.unlocked

pub returns-clause-unlocked : goal.returns-clause-unlocked
returns-clause-unlocked g c =
    let old = c.read.inside.own in
    let new = c.unlock_step.new.own.front in
    subst (λ (r : Reader). AnsweredBy r.pass.head r.pass.seat Unlock r.pass.front new (Done (pos 0))) c.read.view_is
    (makes_answered old.head old.seat Unlock (ReadUnlock old.seat) old.front new (Done (pos 0)) c.unlock_step.ensures.unlocked refl refl)

pub returns-clause-online : goal.returns-clause-online
returns-clause-online g c =
    let r : Reader = record { pass = c.read.inside.own; online = c.read.inside.online } in
    let new = c.unlock_step.new.own.front in
    subst (λ (x : Reader). IsOnlineThroughout x new) c.read.view_is
    (unlocked_throughout r new c.read.invariant c.unlock_step.ensures.unlocked)

pub returns-clause-idle : goal.returns-clause-idle
returns-clause-idle g c =
    made_idle c.read.inside.own c.unlock_step.new.own Unlock (ReadUnlock c.read.inside.own.seat) (Done (pos 0)) c.unlock_step.ensures.same
    c.unlock_step.ensures.unlocked refl refl

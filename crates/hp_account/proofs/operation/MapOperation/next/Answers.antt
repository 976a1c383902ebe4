use Rattle.std.proofs.Common.{◌≡◌, to_z, w32, pos, ap, ◌∙◌, sym, subst, rules}
use Rattle.std.specs.Prelude.{slice_index}
use Rattle.hp_suspend.specs.Tables.{AreOnline, ArePresent, AreFrozen, AreSettled}
use Rattle.hp_event.specs.declared.answer.Answer.TheVariants.{Ok}
use Rattle.hp_model.specs.Sequence.{ends}
use Rattle.hp_model.specs.Suspend.{frozen}
use Rattle.hp_model.specs.Lists.{among}
use Rattle.hp_model.specs.Processors.{is_present}
use Rattle.hp_account.specs.Operations.{AreWalks, single_by}
use Rattle.hp_account.proofs.HeldNext.{flags_all, settled_all, online_all, single_is, freeze_is, thaw_is, boot_is, batch_is, batch_walks_next, batch_ends_next, of_held}
use Rattle.hp_account.proofs.operation.MapOperation.next.Goals as goal

pub returns-in-Single : goal.returns-in-Single
returns-in-Single c = λ head events o lawful held op walking standing suspended.
    let is : AreWalks head o.before events o.op c.args.self.now.sequence = of_held head events c.args.self.now o held op in
    let w = c.in-Single.walk in
    c.next.ensures ∙ ap (λ xs. single_by w.cpu w.to (slice_index xs w.cpu) w.answer) c.settled-settled.ensures.settled ∙
    single_is head events c.args.processors.now o w lawful op standing (subst (AreWalks head o.before events o.op) c.in-Single.is is)

pub returns-in-Freeze : goal.returns-in-Freeze
returns-in-Freeze c = λ head events o lawful held op walking standing suspended.
    let is : AreWalks head o.before events o.op c.args.self.now.sequence = of_held head events c.args.self.now o held op in
    let f = freeze_is head events o c.in-Freeze.freeze (subst (AreWalks head o.before events o.op) c.in-Freeze.is is) in
    let online = subst (AreOnline head events) (sym c.online.ensures.online) (online_all head events c.args.processors.now standing) in
    c.next-in-Freeze.ensures.by_journal head events o f.primary lawful op f.op_is walking f.is online (c.wakeup.ensures ∙ suspended.wakeup_is)

pub returns-in-Thaw : goal.returns-in-Thaw
returns-in-Thaw c = λ head events o lawful held op walking standing suspended.
    let is : AreWalks head o.before events o.op c.args.self.now.sequence = of_held head events c.args.self.now o held op in
    let t = thaw_is head events o c.in-Thaw.thaw (subst (AreWalks head o.before events o.op) c.in-Thaw.is is) in
    c.next-in-Thaw.ensures.by_journal head events o lawful op t.0 walking t.1
    (subst (AreFrozen head events) (sym c.frozen.ensures)
    (flags_all head (λ cpu. among cpu (frozen events)) c.args.suspended.now.frozen suspended.frozen_is))
    (subst (AreSettled head events) (sym c.settled-settled.ensures.settled) (settled_all head events c.args.processors.now standing))

pub returns-in-Boot : goal.returns-in-Boot
returns-in-Boot c = λ head events o lawful held op walking standing suspended.
    let is : AreWalks head o.before events o.op c.args.self.now.sequence = of_held head events c.args.self.now o held op in
    let b = boot_is head events o c.in-Boot.boot (subst (AreWalks head o.before events o.op) c.in-Boot.is is) in
    c.next-in-Boot.ensures.by_journal head events o b.max lawful op b.op_is walking b.is
    (subst (ArePresent head) (sym c.present.ensures) (flags_all head (is_present head) c.args.processors.now.present standing.present_is))
    (subst (AreOnline head events) (sym c.online-in-Boot.ensures.online) (online_all head events c.args.processors.now standing))

pub returns-in-Some : goal.returns-in-Some
returns-in-Some c = λ head events o lawful held op walking standing suspended.
    let is : AreWalks head o.before events o.op c.args.self.now.sequence = of_held head events c.args.self.now o held op in
    let b = batch_is head events o c.in-Batch.batch (subst (AreWalks head o.before events o.op) c.in-Batch.is is) in
    batch_walks_next head events o b.set c.in-Some.cpu op b.op_is
    (sym c.in-Some.is ∙ c.next-in-Batch.ensures head events o b.set lawful op b.op_is b.is)

pub returns-in-None : goal.returns-in-None
returns-in-None c = λ head events o lawful held op walking standing suspended.
    let is : AreWalks head o.before events o.op c.args.self.now.sequence = of_held head events c.args.self.now o held op in
    let b = batch_is head events o c.in-Batch.batch (subst (AreWalks head o.before events o.op) c.in-Batch.is is) in
    let same : to_z w32 c.failed.result ≡ pos c.in-Batch.batch.failed = search rules in
    ap (λ z. ends (Ok z)) same
    ∙ batch_ends_next head events o b.set c.in-Batch.batch op b.op_is b.is walking
    (sym c.in-None.is ∙ c.next-in-Batch.ensures head events o b.set lawful op b.op_is b.is)

use Rattle.std.proofs.Common.{◌∙◌, sym, subst}
use Rattle.hp_machine.specs.Contents.{Contents}
use Rattle.hp_account.specs.Batches.{IsUpmanyAt}
use Rattle.hp_account.proofs.InBatch.{of_batch}
use Rattle.hp_machine.proofs.BatchNeed.{walk_room}
use Rattle.hp_machine.proofs.machine.Machine.room_of_walk.Goals as goal

pub room_of_batch-requires-clause-upmany : goal.room_of_batch-requires-clause-upmany
room_of_batch-requires-clause-upmany g c =
    let j = c.self.inside.journal in
    let x = c.in-Some in (
      x.field-0-0,
      subst (λ (m : Contents). IsUpmanyAt m.head m.events x.field-0-0 x.batch.now) c.self.view_is
          (of_batch j.head j.events c.self.inside.account.operation x.field-0-0 x.batch.now c.self.invariant.kept.account.operation x.ensures),
    )

pub returns-in-None : goal.returns-in-None
returns-in-None g c = λ seat cpu.
    let j = c.self.inside.journal in
    let counts = rw (sym c.self.view_is) at c.requires in
    c.need_of_walk.ensures.needs
    ∙ rw (sym c.self.view_is)
    (walk_room j.head j.events c.self.inside.account.operation c.self.inside.table seat cpu c.args.from c.args.to
    c.self.invariant.kept.account.operation c.in-None.ensures counts)

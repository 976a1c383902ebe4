use Rattle.std.proofs.Common.{sym, ◌∙◌}
use Rattle.hp_machine.proofs.LockWaits.{later_said, first_said}
use Rattle.hp_machine.proofs.machine.Machine.wait_to_walk.Goals as goal

pub returns-then-has_batch_begun : goal.returns-then-has_batch_begun
returns-then-has_batch_begun g c = later_said c.args.self.now.events (sym c.has_batch_begun.ensures ∙ c.if-has_batch_begun.true)

pub returns : goal.returns
returns g c =
    let m = c.self.inside in
    rw (sym c.self.view_is)
    (c.wait_to_write.ensures
    ∙ first_said m.journal.events m.account.locks c.self.invariant.kept.account.locks
    (rw (sym c.self.view_is) at (sym c.has_batch_begun.ensures ∙ c.if-has_batch_begun.false)))

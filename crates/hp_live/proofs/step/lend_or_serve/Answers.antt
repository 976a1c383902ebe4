-- A turn of a thread's seat, where nothing could be lent to it.
use Rattle.std.proofs.Common.{◌≡◌, ◌↔◌, subst}
use Rattle.hp_board.specs.Contents.{Contents}
use Rattle.hp_board.specs.Loans.{CallsAway}
use Rattle.hp_board.specs.declared.turn.Turn.TheVariants.{NotYet}
use Rattle.hp_locks.specs.declared.why.Why.TheVariants.{HookOut}
use Rattle.hp_machine.specs.StandsNext.{due_of}
use Rattle.hp_live.proofs.step.lend_or_serve.Goals as goal

pub returns-in-None-clause-waits : goal.returns-in-None-clause-waits
returns-in-None-clause-waits g c = λ s.
    subst (λ (b : Contents). CallsAway b s (due_of b c.args.by) ↔ (c.serve.result ≡ NotYet (HookOut s))) c.in-None.ensures.none
    (c.serve.ensures.hook_out s)

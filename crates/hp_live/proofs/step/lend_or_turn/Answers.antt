-- A turn of a client's seat, where nothing could be lent to it.
use Rattle.std.proofs.Common.{sym, subst}
use Rattle.hp_board.specs.Contents.{Contents}
use Rattle.hp_board.specs.Turns.{IsHookOut}
use Rattle.hp_live.proofs.step.lend_or_turn.Goals as goal

pub returns-in-Ok-clause-waits : goal.returns-in-Ok-clause-waits
returns-in-Ok-clause-waits g c = λ s h.
    let out = (c.in-Ok.ensures.hook_out s).0
    (subst (λ (b : Contents). IsHookOut s c.args.by c.args.ask.now.op b) (sym c.in_default.ensures.none) h) in
    cc

pub returns-in-Err-clause-waits : goal.returns-in-Err-clause-waits
returns-in-Err-clause-waits g c = λ s h.
    let out = (c.in-Err.ensures.hook_out s).0
    (subst (λ (b : Contents). IsHookOut s c.args.by c.args.ask.now.op b) (sym c.in_default.ensures.none) h) in
    absurd (cc out)

-- Who waits for a hook alone.
use Rattle.hp_live.proofs.Freeing.{noted_exactly, waits_or_noted}
use Rattle.hp_live.proofs.freed.waits_for_hook.Goals as goal

pub returns-clause-exactly : goal.returns-clause-exactly
returns-clause-exactly g c =
    noted_exactly c.hook_away-away.result c.is_busy.result c.args.board.now.events c.args.seat c.args.turn.now c.hook_away-away.ensures
    c.is_busy.ensures

pub returns-clause-waits : goal.returns-clause-waits
returns-clause-waits g c = λ op why kept is none.
    waits_or_noted c.args.board.now c.args.seat op why c.args.turn.now _ kept is
    (noted_exactly c.hook_away-away.result c.is_busy.result c.args.board.now.events c.args.seat c.args.turn.now c.hook_away-away.ensures
    c.is_busy.ensures).1 none

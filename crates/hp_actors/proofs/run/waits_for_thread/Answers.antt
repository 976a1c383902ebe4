-- A seat waits for a thread exactly where the next entry of what it has in flight is a thread's, and then a turn of it makes nothing.
use Rattle.std.proofs.Common.{sym, ◌∙◌}
use Rattle.hp_actors.proofs.ThreadsTurn.{found_waits, makes_nothing}
use Rattle.hp_actors.proofs.run.waits_for_thread.Goals as goal

pub returns-clause-exactly : goal.returns-clause-exactly
returns-clause-exactly g c =
    let b = c.args.board.now in
    let waits = found_waits b.head b.events c.args.seat c.ap_turn.result c.ap_turn.ensures in (
      λ yes. waits.0 (sym c.is_some.ensures ∙ yes),
      λ w. c.is_some.ensures ∙ waits.1 w,
    )

pub returns-clause-nothing : goal.returns-clause-nothing
returns-clause-nothing g c = λ yes op.
    let b = c.args.board.now in
    let waits = found_waits b.head b.events c.args.seat c.ap_turn.result c.ap_turn.ensures in
    makes_nothing b.head b.events c.args.seat op c.sound.ensures.lawful (waits.0 (sym c.is_some.ensures ∙ yes))

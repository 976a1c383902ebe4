-- A seat that waits for no thread.
use Rattle.hp_live.proofs.Freeing.{waits_none}
use Rattle.hp_live.proofs.freed.waits_for_none.Goals as goal

pub returns-then-seat-by : goal.returns-then-seat-by
returns-then-seat-by g c =
    waits_none c.args.board.now.head c.args.board.now.events c.args.by c.args.holder c.in-Some.seat c.waits_for_thread.result c.in-Some.is
    c.waits_for_thread.ensures

-- The thread from which an event made an entry due.
use Rattle.std.proofs.Common.{ap, sym, ◌∙◌, is_some}
use Rattle.hp_live.proofs.Freeing.{due_registering}
use Rattle.hp_live.proofs.freed.thread_due.Goals as goal

pub returns-in-Some : goal.returns-in-Some
returns-in-Some g c =
    due_registering c.args.board.now.head c.args.board.now.events c.args.event.now c.registering_due.result c.sound.ensures.lawful
    (ap is_some (sym c.registrar.ensures ∙ c.in-Some.is)) c.registering_due.ensures

pub walking_due-requires : goal.walking_due-requires
walking_due-requires g c = sym c.registrar.ensures ∙ c.in-None.is

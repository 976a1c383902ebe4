-- A seat that waits for a thread.
use Rattle.hp_live.proofs.freed.waits_for_thread.Goals as goal

pub returns-in-Some : goal.returns-in-Some
returns-in-Some g c = λ is. (c.in-Some.field-0, (c.ap_turn.ensures c.in-Some.field-0).1 c.in-Some.is)

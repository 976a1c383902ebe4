-- An unlock ends the read section.
use Rattle.hp_threads.proofs.Locking.{unlocked_done}
use Rattle.hp_threads.proofs.acting.do_one.Goals as goal

pub returns-then-is_unlock-clause-done : goal.returns-then-is_unlock-clause-done
returns-then-is_unlock-clause-done g c =
    unlocked_done c.args.standing c.in-Inside.read c.args.ask.op c.read_unlock.result.front c.in-Inside.is
    (c.is_unlock.ensures.unlock c.if-is_unlock.true) c.read_unlock.ensures.unlocked

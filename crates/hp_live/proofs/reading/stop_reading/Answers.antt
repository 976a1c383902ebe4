-- An unlock of a reader is made at once.
use Rattle.hp_live.proofs.ReadSteps.{unlock_made}
use Rattle.hp_live.proofs.reading.stop_reading.Goals as goal

pub returns-clause-unlocked : goal.returns-clause-unlocked
returns-clause-unlocked g c =
    unlock_made c.args.by c.args.board.now c.turn.new.self c.turn.result c.requires.role c.requires.idle c.requires.reading
    c.turn.ensures.turn c.turn.ensures.memory

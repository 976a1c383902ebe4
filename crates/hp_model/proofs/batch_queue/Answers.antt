use Rattle.hp_model.proofs.OneNext.{owners}
use Rattle.hp_model.proofs.QueueMoves.{queue_none, queue_moves, queue_fits}
use Rattle.hp_model.proofs.TurnQueue.{queue_turn}
use Rattle.hp_model.proofs.batch_queue.Goals as goal

pub returns-clause-begins : goal.returns-clause-begins
returns-clause-begins c = λ seat none. queue_none c.args.head.now c.args.events.now seat none

pub returns-clause-turn : goal.returns-clause-turn
returns-clause-turn c = λ seat none is. queue_turn c.args.head.now c.args.events.now seat c.args.queue.now none is

pub returns-clause-moves : goal.returns-clause-moves
returns-clause-moves c =
    λ lawful o comes held many then is.
    queue_moves c.args.head.now c.args.events.now c.args.event.now o c.args.queue.now
    (owners c.args.head.now c.args.events.now lawful) comes held many then is

pub returns-clause-fits : goal.returns-clause-fits
returns-clause-fits c = λ lawful seat is. queue_fits c.args.head.now c.args.events.now seat c.args.queue.now lawful is

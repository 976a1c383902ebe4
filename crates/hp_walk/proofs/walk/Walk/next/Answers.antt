-- What it asks for next is what comes next in a walk along its plan, and its answer is that of a whole walk.
use Rattle.hp_walk.specs.Keys.{keys_by}
use Rattle.hp_walk.proofs.Asking.{asks_forward, asks_undoing, asks_back, asks_redoing, asks_ended}
use Rattle.hp_walk.proofs.walk.Walk.next.Goals as goal

pub returns-in-Forward-clause-means : goal.returns-in-Forward-clause-means
returns-in-Forward-clause-means g c = λ entries h.
    rw (c.call.ensures, c.between-dir.ensures)
    (asks_forward (keys_by c.args.table.now) entries c.args.self.now c.in-Forward.state c.in-Forward.key c.in-Forward.is h)

pub returns-in-UndoingPart-clause-means : goal.returns-in-UndoingPart-clause-means
returns-in-UndoingPart-clause-means g c = λ entries h.
    rw (c.call-in-UndoingPart.ensures, c.opposite.ensures, c.between-dir.ensures)
    (asks_undoing (keys_by c.args.table.now) entries c.args.self.now c.in-UndoingPart.state c.in-UndoingPart.key c.in-UndoingPart.keys
    c.in-UndoingPart.code c.in-UndoingPart.is h)

pub returns-in-Back-clause-means : goal.returns-in-Back-clause-means
returns-in-Back-clause-means g c = λ entries h.
    rw (c.call-in-Back.ensures, c.opposite-in-Back.ensures, c.between-dir.ensures)
    (asks_back (keys_by c.args.table.now) entries c.args.self.now c.in-Back.state c.in-Back.key c.in-Back.code c.in-Back.is h)

pub returns-in-RedoingPart-clause-means : goal.returns-in-RedoingPart-clause-means
returns-in-RedoingPart-clause-means g c = λ entries h.
    rw (c.call-in-RedoingPart.ensures, c.between-dir.ensures)
    (asks_redoing (keys_by c.args.table.now) entries c.args.self.now c.in-RedoingPart.state c.in-RedoingPart.key c.in-RedoingPart.keys
    c.in-RedoingPart.first c.in-RedoingPart.second c.in-RedoingPart.is h)

pub returns-in-Ended-clause-means : goal.returns-in-Ended-clause-means
returns-in-Ended-clause-means g c = λ entries h.
    asks_ended (keys_by c.args.table.now) entries c.args.self.now c.in-Ended.answer c.in-Ended.is h

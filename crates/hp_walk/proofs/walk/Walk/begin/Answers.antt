-- A walk that begins stands at the top of the tree of its plan.
use Rattle.hp_walk.specs.Keys.{keys_by}
use Rattle.hp_walk.proofs.Begun.{begun_after, begun_depth}
use Rattle.hp_walk.proofs.walk.Walk.begin.Goals as goal

pub returns-clause-after : goal.returns-clause-after
returns-clause-after g c =
    begun_after (keys_by c.args.table.now) c.args.cpu c.args.from c.args.to c.next_on_the_way.result c.requires.states.0
    c.requires.states.1 c.requires.states.2 (rw c.between.ensures at c.next_on_the_way.ensures)

pub returns-clause-most : goal.returns-clause-most
returns-clause-most g c =
    begun_depth (keys_by c.args.table.now) c.args.cpu c.args.from c.args.to c.next_on_the_way.result
    (rw c.between.ensures at c.next_on_the_way.ensures)

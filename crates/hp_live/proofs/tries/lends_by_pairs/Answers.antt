-- A board's journal and what it has lent tell what it lends, and what waits for it.
use Rattle.std.proofs.Common.{sym, ◌∙◌}
use Rattle.hp_live.specs.Steps.{IsBoard}
use Rattle.hp_live.proofs.Finding.{is_board}
use Rattle.hp_live.proofs.LentPairs.{by_calls, by_not_yet, calls_by, lends_is, not_yet_by}
use Rattle.hp_live.proofs.tries.lends_by_pairs.Given as given
use Rattle.hp_live.proofs.tries.lends_by_pairs.Goals as goal
use Rattle.hp_live.proofs.tries.lends_by_pairs.Goals.{After-sound}

board : (g : given.Over) (c : After-sound g) → IsBoard c.args.board.now
board g c = is_board c.args.board.now c.sound.ensures.lawful c.sound.ensures.table c.sound.ensures.out

pub returns-clause-lends : goal.returns-clause-lends
returns-clause-lends g c =
    let is = lends_is c.args.board.now c.args.by (board g (goal.at.returns-clause-lends g c).After-sound) in
    (λ lends. sym is ∙ lends, λ can. is ∙ can)

pub returns-clause-not_yet : goal.returns-clause-not_yet
returns-clause-not_yet g c = λ why.
    let of = board g (goal.at.returns-clause-not_yet g c).After-sound in
    (by_not_yet c.args.board.now c.args.by c.args.op.now why of, not_yet_by c.args.board.now c.args.by c.args.op.now why of)

pub returns-clause-calls : goal.returns-clause-calls
returns-clause-calls g c = λ s.
    let of = board g (goal.at.returns-clause-calls g c).After-sound in
    (by_calls c.args.board.now s c.args.by of, calls_by c.args.board.now s c.args.by of)

use Rattle.hp_board.proofs.HooksCounted.{serve_keeps_hooks}
use Rattle.hp_board.proofs.hook_laws.serve_keeps_hooks.Goals as goal

pub returns : goal.returns
returns c = λ old new served. serve_keeps_hooks old new c.args.by c.args.turn.now served

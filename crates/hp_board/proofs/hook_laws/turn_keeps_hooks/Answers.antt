use Rattle.hp_board.proofs.HooksCounted.{turn_keeps_hooks}
use Rattle.hp_board.proofs.hook_laws.turn_keeps_hooks.Goals as goal

pub returns : goal.returns
returns c = λ old new had lawful table sound allowed has turn.
    turn_keeps_hooks old new (record { seat = c.args.by; op = c.args.op }) had c.args.turn.now lawful table sound allowed has turn

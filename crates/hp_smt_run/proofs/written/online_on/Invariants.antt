use Rattle.std.proofs.Common.{◌≡◌}
use Rattle.hp_smt_run.proofs.Online.{online_below}
use Rattle.hp_smt_run.proofs.written.online_on.Given as goal

abbrev pub invariant-loop-cpu : goal.invariant-loop-cpu
invariant-loop-cpu g l = l.found.items ≡ online_below l.board.events l.cpu

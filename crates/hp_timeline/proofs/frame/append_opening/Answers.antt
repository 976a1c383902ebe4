use Rattle.std.proofs.Common.{arith}
use Rattle.hp_timeline.proofs.frame.append_opening.Goals as goal

pub overflow_add-bottom : goal.overflow_add-bottom
overflow_add-bottom c = omega (arith, c.bottom.ensures.small)

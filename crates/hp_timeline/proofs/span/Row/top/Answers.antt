use Rattle.std.proofs.Common.{arith}
use Rattle.hp_timeline.proofs.span.Row.top.Goals as goal

pub overflow_add-result : goal.overflow_add-result
overflow_add-result c = omega (arith, c.seat_top.ensures.small)

pub overflow_add-result-in-Section : goal.overflow_add-result-in-Section
overflow_add-result-in-Section c = omega (arith, c.seat_top-in-Section.ensures.small)

use Rattle.std.proofs.Common.{arith}
use Rattle.hp_timeline.proofs.frame.append_seat.Goals as goal

pub overflow_add-seat_top : goal.overflow_add-seat_top
overflow_add-seat_top c = omega (arith, c.seat_top.ensures.small)

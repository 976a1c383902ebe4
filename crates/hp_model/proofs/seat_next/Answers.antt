use Rattle.hp_model.proofs.SeatNext.{threads_due, holders_due, holders_next, holders_wait}
use Rattle.hp_model.proofs.seat_next.Goals as goal

pub returns-clause-thread : goal.returns-clause-thread
returns-clause-thread c = threads_due c.args.head.now c.args.events.now

pub returns-clause-due : goal.returns-clause-due
returns-clause-due c = holders_due c.args.head.now c.args.events.now

pub returns-clause-next : goal.returns-clause-next
returns-clause-next c = holders_next c.args.head.now c.args.events.now

pub returns-clause-waits : goal.returns-clause-waits
returns-clause-waits c = holders_wait c.args.head.now c.args.events.now

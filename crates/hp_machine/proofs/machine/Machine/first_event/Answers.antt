use Rattle.hp_machine.proofs.FirstSaid.{first_refused, first_begun, kept_said}
use Rattle.hp_machine.proofs.machine.Machine.first_event.Goals as goal

pub returns-in-Err-Waits-clause-waits : goal.returns-in-Err-Waits-clause-waits
returns-in-Err-Waits-clause-waits g c =
    let m = c.args.self.now in
    let q = c.requires in
    kept_said m.head m.events c.args.seat c.args.op.now c.in-Err-Waits.why q.client q.free q.subs
    (rw c.in-Err-Waits.field-0-is at c.in-Err-Waits.ensures.blocked)

pub returns-in-Err-Refused-clause-event : goal.returns-in-Err-Refused-clause-event
returns-in-Err-Refused-clause-event g c =
    let m = c.args.self.now in
    let q = c.requires in
    first_refused m.head m.events c.args.seat c.in-Err-Refused.errno c.args.op.now q.client q.subs
    (rw c.in-Err-Refused.field-0-is at c.in-Err-Refused.ensures.blocked)

pub returns-in-Ok-clause-event : goal.returns-in-Ok-clause-event
returns-in-Ok-clause-event g c =
    let m = c.args.self.now in
    let q = c.requires in
    first_begun m.head m.events c.args.seat c.args.op.now c.begin.result q.client q.subs c.in-Ok.ensures.passes c.begin.ensures.begins

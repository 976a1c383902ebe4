use Rattle.hp_model.proofs.NextStands.{next_stands}
use Rattle.hp_model.proofs.NextGives.{next_exactly, next_nothing}
use Rattle.hp_model.proofs.next_event.Goals as goal

pub returns-clause-stands : goal.returns-clause-stands
returns-clause-stands c = λ seat op h. next_stands c.args.head.now c.args.events.now seat op c.args.event.now h

pub returns-clause-exactly : goal.returns-clause-exactly
returns-clause-exactly c = λ p. next_exactly c.args.head.now c.args.events.now p c.args.event.now

pub returns-clause-none : goal.returns-clause-none
returns-clause-none c = λ p. next_nothing c.args.head.now c.args.events.now p

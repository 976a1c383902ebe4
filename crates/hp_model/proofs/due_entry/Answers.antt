use Rattle.hp_model.proofs.DueGives.{due_stands, due_exactly, due_nothing}
use Rattle.hp_model.proofs.due_entry.Goals as goal

pub returns-clause-stands : goal.returns-clause-stands
returns-clause-stands c = λ seat h. (due_stands c.args.head.now c.args.events.now seat c.args.entry.now h).0

pub returns-clause-exactly : goal.returns-clause-exactly
returns-clause-exactly c =
    λ lawful seat. due_exactly c.args.head.now c.args.events.now seat c.args.entry.now lawful

pub returns-clause-none : goal.returns-clause-none
returns-clause-none c = λ seat. due_nothing c.args.head.now c.args.events.now seat

pub returns-clause-leaves : goal.returns-clause-leaves
returns-clause-leaves c =
    λ seat h. (due_nothing c.args.head.now c.args.events.now seat).1 h.0.no_entry_due

use Rattle.hp_model.proofs.EntryStays.{due_stays, due_one, due_alone}
use Rattle.hp_model.proofs.due_stays.Goals as goal

pub returns-clause-stays : goal.returns-clause-stays
returns-clause-stays c =
    λ lawful seat. due_stays c.args.head.now c.args.events.now seat c.args.entry.now c.args.event.now lawful

pub returns-clause-one : goal.returns-clause-one
returns-clause-one c =
    λ lawful seat other. due_one c.args.head.now c.args.events.now seat other c.args.entry.now c.args.event.now lawful

pub returns-clause-alone : goal.returns-clause-alone
returns-clause-alone c =
    λ lawful seat other. due_alone c.args.head.now c.args.events.now seat other c.args.entry.now c.args.event.now lawful

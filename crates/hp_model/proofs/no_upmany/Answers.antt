use Rattle.hp_model.proofs.NoUpmanyProof.{is_plain, none_held}
use Rattle.hp_model.proofs.no_upmany.Goals as goal

pub returns-clause-in_flight : goal.returns-clause-in_flight
returns-clause-in_flight c = is_plain c.args.head.now c.args.events.now

pub returns-clause-ever : goal.returns-clause-ever
returns-clause-ever c = λ none. is_plain c.args.head.now c.args.events.now (none_held c.args.events.now none)

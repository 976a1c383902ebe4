use Rattle.hp_model.proofs.DrawLemmas.{draws_long, draws_below}
use Rattle.hp_model.proofs.draws_below.Goals as goal

pub returns-clause-count : goal.returns-clause-count
returns-clause-count c = draws_long

pub returns-clause-below : goal.returns-clause-below
returns-clause-below c = draws_below

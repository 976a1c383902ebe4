use Rattle.std.proofs.Common.{ap, sym, ◌∙◌}
use Rattle.hp_work.specs.Changes.{goes_to}
use Rattle.hp_work.proofs.Sets.{lowest_of}
use Rattle.hp_work.proofs.queues.lowest_place.Goals as goal

pub returns-in-Some-clause-exactly : goal.returns-in-Some-clause-exactly
returns-in-Some-clause-exactly c =
    ap goes_to (sym c.in-Some.is ∙ sym (lowest_of c.args.opened.now c.first_from.result c.first_from.ensures.some c.first_from.ensures.none))

pub returns-in-None-clause-exactly : goal.returns-in-None-clause-exactly
returns-in-None-clause-exactly c =
    ap goes_to (sym c.in-None.is ∙ sym (lowest_of c.args.opened.now c.first_from.result c.first_from.ensures.some c.first_from.ensures.none))

use Rattle.std.proofs.Common.{ap, sym}
use Rattle.hp_pcount.specs.Tally.{Tally}
use Rattle.hp_pcount.proofs.Sets.{first_is, none_is}
use Rattle.hp_pcount.proofs.counters.Counters.first_open.Goals as goal

pub returns-clause-some : goal.returns-clause-some
returns-clause-some c =
    first_is c.self.inside.opened c.args.self.now c.args.from c.first_from.result (ap (λ (t : Tally). t.opened) (sym c.self.view_is))
    c.first_from.ensures.some

pub returns-clause-none : goal.returns-clause-none
returns-clause-none c =
    none_is c.self.inside.opened c.args.self.now c.args.from c.first_from.result (ap (λ (t : Tally). t.opened) (sym c.self.view_is))
    c.first_from.ensures.none

use Rattle.std.proofs.Common.{ap, sym}
use Rattle.hp_work.specs.Work.{Work}
use Rattle.hp_work.proofs.Sets.{first_is, none_is}
use Rattle.hp_work.proofs.queues.Queues.first_open.Goals as goal

pub returns-clause-some : goal.returns-clause-some
returns-clause-some c =
    first_is c.self.inside.opened c.args.self.now c.args.from c.first_from.result (ap (λ (w : Work). w.opened) (sym c.self.view_is))
    c.first_from.ensures.some

pub returns-clause-none : goal.returns-clause-none
returns-clause-none c =
    none_is c.self.inside.opened c.args.self.now c.args.from c.first_from.result (ap (λ (w : Work). w.opened) (sym c.self.view_is))
    c.first_from.ensures.none

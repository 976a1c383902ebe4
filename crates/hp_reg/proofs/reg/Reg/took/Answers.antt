use Rattle.std.proofs.Common.{refl}
use Rattle.hp_reg.proofs.Steps.{taken, less}
use Rattle.hp_reg.proofs.reg.Reg.took.Goals as goal

pub returns-clause-after : goal.returns-clause-after
returns-clause-after c key cpus es seat at dir place h a f =
    taken key cpus es c.args.self.now _ seat c.args.cpu at dir place c.args.how
    (rw (c.past-self-inside.ensures, ← c.self.view_is) refl) h a f

pub returns-clause-less : goal.returns-clause-less
returns-clause-less c key cpus at dir place h a f =
    less key cpus c.args.self.now _ c.args.cpu at dir place c.args.how
    (rw (c.past-self-inside.ensures, ← c.self.view_is) refl) h a f

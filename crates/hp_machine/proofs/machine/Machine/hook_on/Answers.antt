use Rattle.std.proofs.Common.{refl, sym}
use Rattle.hp_machine.proofs.WalkAsked.{walk_within, walk_beside}
use Rattle.hp_machine.proofs.machine.Machine.hook_on.Goals as goal

pub hook_asked-requires-clause-walks : goal.hook_asked-requires-clause-walks
hook_asked-requires-clause-walks g c = walk_within c.args.cpu c.self.invariant c.if-not-walks.ensures

pub returns : goal.returns
returns g c =
    let j = c.self.inside.journal in
    rw (sym c.self.view_is)
    (c.hook_asked.ensures j.head j.events _ c.self.invariant.kept.account.flights
    (walk_beside c.args.cpu c.armed-armed.result _ c.self.invariant c.if-not-walks.ensures c.armed-armed.ensures refl))

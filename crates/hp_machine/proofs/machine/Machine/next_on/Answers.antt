use Rattle.std.proofs.Common.{sym}
use Rattle.hp_machine.proofs.WalkAsked.{walk_within, walk_beside}
use Rattle.hp_machine.proofs.machine.Machine.next_on.Goals as goal

pub next-requires-clause-walks : goal.next-requires-clause-walks
next-requires-clause-walks g c = walk_within c.args.cpu c.self.invariant c.if-not-walks.ensures

pub returns : goal.returns
returns g c =
    let j = c.self.inside.journal in
    rw (sym c.self.view_is)
    (c.next.ensures j.head j.events c.self.invariant.kept.account.flights
    (walk_beside c.args.cpu c.armed-armed.result c.thread-thread.result c.self.invariant c.if-not-walks.ensures c.armed-armed.ensures
    c.thread-thread.ensures))

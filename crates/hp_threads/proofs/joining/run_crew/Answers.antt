-- What came of the threads that were started.
use Rattle.std.proofs.Common.{arith}
use Rattle.hp_threads.proofs.Pairing.{acting_length, have_run, have_stayed, serving_length}
use Rattle.hp_threads.proofs.joining.run_crew.Goals as goal

pub start_all-crew-requires-clause-for_actors : goal.start_all-crew-requires-clause-for_actors
start_all-crew-requires-clause-for_actors g c κs within = omega (arith, c.args.jobs.ok.0, c.requires.room.for_actors)

pub start_all-crew-requires-clause-for_servers : goal.start_all-crew-requires-clause-for_servers
start_all-crew-requires-clause-for_servers g c κs within = omega (arith, c.args.passes.ok.0, c.requires.room.for_servers)

pub join_actors-lefts-requires-clause-room : goal.join_actors-lefts-requires-clause-room
join_actors-lefts-requires-clause-room g c κs within =
    let same = acting_length c.args.jobs.items c.start_all-crew.result.actors.items c.start_all-crew.ensures.acting in
    omega (arith, same, c.args.jobs.ok.0, c.requires.room.for_lefts)

pub join_servers-back-requires-clause-room : goal.join_servers-back-requires-clause-room
join_servers-back-requires-clause-room g c κs within =
    let same = serving_length c.args.passes.items c.start_all-crew.result.servers.items c.start_all-crew.ensures.serving in
    omega (arith, same, c.args.passes.ok.0, c.requires.room.for_passes)

pub returns-clause-ran : goal.returns-clause-ran
returns-clause-ran g c =
    have_run c.args.jobs.items c.start_all-crew.result.actors.items c.join_actors-lefts.result.items c.start_all-crew.ensures.acting
    c.join_actors-lefts.ensures

pub returns-clause-stayed : goal.returns-clause-stayed
returns-clause-stayed g c =
    have_stayed c.args.passes.items c.start_all-crew.result.servers.items c.join_servers-back.result.items
    c.start_all-crew.ensures.serving c.join_servers-back.ensures

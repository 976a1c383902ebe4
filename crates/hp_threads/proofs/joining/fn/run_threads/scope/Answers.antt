-- The hooks can go to threads, and threads share what they run with.
use denote.Exit.{yes}
use denote.Param.Send.{param_send, param_sync, arg_sync, given_send, given_sync}
use Rattle.hp_threads.proofs.joining.fn.run_threads.scope.Goals as goal

pub run_crew-requires-clause-bounds : goal.run_crew-requires-clause-bounds
run_crew-requires-clause-bounds g c κs within = (
  param_send 1 _ (given_send 0 _ g.row.H c.requires.bounds.0),
  param_sync 2 _ (arg_sync _ yes g.row.R (given_sync 1 g.row.R c.requires.bounds.1)),
  param_sync 3 _ (arg_sync _ yes g.row.G (given_sync 2 g.row.G c.requires.bounds.2)),
)

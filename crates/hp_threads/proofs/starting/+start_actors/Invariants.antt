use Rattle.std.proofs.Common.{vec_len}
use Rattle.hp_threads.proofs.starting.+start_actors.Given as goal

abbrev pub decreases-start_actors : goal.decreases-start_actors
decreases-start_actors g l = vec_len l.jobs

-- The operations of an actor, with their hooks. This project's own.
use Rattle.std.specs.Prelude.{List, map}
use Rattle.hp_actors.specs.Actors.{AreLoaded}
use Rattle.hp_actors.specs.Positions.{op_of}
use Rattle.hp_event.specs.declared.op.Op.{Op}
use Rattle.hp_threads.specs.declared.job.Job.{Job}

abbrev pub ops_in : {H : Type 0} → Job H → List Op
ops_in job = map op_of job.asks.items

-- each setup has its hook, and nothing else has one
abbrev pub IsLoaded : {H : Type 0} → Job H → Type 0
IsLoaded job = AreLoaded job.asks.items

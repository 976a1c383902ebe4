-- The rack once a run was given up. This project's own.
use Rattle.std.specs.Prelude.{◌++◌}
use Rattle.hp_hook.specs.Counted.{Counts}
use Rattle.hp_hook.specs.declared.rack.Rack.{Rack}
use Rattle.hp_board.specs.Retired.{PutsBehind, registered_hooks}
use Rattle.hp_actors.specs.Hooks.{hooks_among}
use Rattle.hp_smt_run.specs.declared.run.SmtRun.{SmtRun}

-- behind the hooks that were there are those of operations, and then those of the registered states
abbrev pub GivesBack : {H : Type 0} → (seen : H → Counts) → SmtRun H → (old new : Rack H) → Type 0
GivesBack seen run old new =
    PutsBehind seen old new (hooks_among seen run.actors.items ++ registered_hooks run.smt.board.head run.smt.board.events)

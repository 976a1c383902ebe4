-- What is so of a run at its end. This project's own.
use Rattle.std.specs.Prelude.{◌≡◌, None, map}
use Rattle.hp_board.specs.Retired.{registered_hooks}
use Rattle.hp_hook.specs.Counted.{Counts}
use Rattle.hp_model.specs.Lawful.{IsLawful}
use Rattle.hp_model.specs.Registrations.{registration}
use Rattle.hpcaches.specs.declared.run.Ran.{Ran}

-- its journal is lawful, and has no registration in flight; its hooks are those of the registered states, each called as often as the
-- journal says, and so answered
pub record IsRun {H : Type 0} (counts : H → Counts) (ran : Ran H) : Type 0 where
  pub lawful : IsLawful ran.journal.head ran.journal.events
  pub at_rest : registration ran.journal.events ≡ None
  pub called : map counts ran.rack.hooks.items ≡ registered_hooks ran.journal.head ran.journal.events

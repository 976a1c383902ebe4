-- What is true of the fields of a script's hook. This project's own.
use Rattle.std.specs.Prelude.{◌≤◌}
use Rattle.hp_states.specs.declared.limits.TheConstants.{MAX_EVENTS}
use Rattle.hp_hook.specs.declared.script_hook.ScriptHook.TheInside.{Inside}
use Rattle.hp_hook.specs.Counted.{NoneAbove}

-- no rule's count is above the number of calls, and no more calls were made than a journal has events
pub record IsSound (h : Inside) : Type 0 where
  pub seen : NoneAbove h.counted.seen h.made
  pub faults : h.faults ≤ h.made
  pub made : h.made ≤ MAX_EVENTS

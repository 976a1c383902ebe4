-- How often hotplug is disabled, which processors are frozen, and whether a wakeup is pending; and that this is what a
-- journal says. This project's own, after `cpu_hotplug_disabled`, `frozen_cpus` and `pm_wakeup_pending` of `kernel/cpu.c`.
use Rattle.std.specs.Prelude.{◌≡◌, ◌≤◌, ◌+◌, ◌-◌, ℕ, Bool, true, false, if◌then◌else◌, List, length, replicate, slice_set}
use Rattle.hp_event.specs.declared.op.Op.{Op}
use Rattle.hp_event.specs.declared.answer.Answer.{Answer}
use Rattle.hp_event.specs.declared.head.Head.{Head}
use Rattle.hp_event.specs.declared.event.Event.{Event}
use Rattle.hp_model.specs.Lists.{among}
use Rattle.hp_model.specs.Suspend.{disabled, frozen, wakeup_pending, is_freeze, is_thaw, is_disabling, is_enabling, is_ok}
use Rattle.hp_account.specs.Flags.{AreFlags}

-- what contracts see of it: of each processor whether it is frozen
pub record SuspendedView : Type 0 where
  pub disabled : ℕ
  pub frozen : List Bool
  pub wakeup : Bool

-- it is disabled at most once for each event
pub record IsSuspended (head : Head) (events : List Event) (s : SuspendedView) : Type 0 where
  pub disabled_is : s.disabled ≡ disabled events
  pub few : s.disabled ≤ length events
  pub frozen_is : AreFlags (λ c. among c (frozen events)) head.possible s.frozen
  pub wakeup_is : s.wakeup ≡ wakeup_pending events

-- no processor is frozen
abbrev pub none_frozen : List Bool → List Bool
none_frozen flags = replicate (length flags) false

-- what stands at the start, of so many processors: hotplug is enabled, none is frozen, no wakeup is pending
abbrev pub nothing_suspended : (cpus : ℕ) → SuspendedView
nothing_suspended cpus = record { disabled = 0; frozen = replicate cpus false; wakeup = false }

-- after the begin of an operation: a thaw takes back one count, and a freeze begins its record
abbrev pub once_entered : Op → SuspendedView → SuspendedView
once_entered op s =
    record {
      disabled = (if is_thaw op then s.disabled - 1 else s.disabled);
      frozen = (if is_freeze op then none_frozen s.frozen else s.frozen);
      wakeup = s.wakeup;
    }

-- after a walk of an operation
abbrev pub walked : Op → (cpu : ℕ) → Answer → SuspendedView → SuspendedView
walked op c answer s =
    if is_freeze op
    then (if is_ok answer then record s { frozen = slice_set s.frozen c true } else s)
    else s

-- after the end of an operation
abbrev pub ended : Op → SuspendedView → SuspendedView
ended op s =
    record {
      disabled = (if is_disabling op then s.disabled + 1 else (if is_enabling op then s.disabled - 1 else s.disabled));
      frozen = (if is_thaw op then none_frozen s.frozen else s.frozen);
      wakeup = (if is_freeze op then false else s.wakeup);
    }

abbrev pub woken : SuspendedView → SuspendedView
woken s = record s { wakeup = true }

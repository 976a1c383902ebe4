-- What a suspend leaves: how often hotplug is disabled, which processors are frozen, and whether a wakeup is
-- pending. After `cpu_hotplug_disabled`, `frozen_cpus` and `pm_wakeup_pending` of `kernel/cpu.c`; when each
-- changes is this project's own.
use Rattle.std.specs.Prelude.{ℕ, ◌+◌, ◌-◌, Bool, true, false, ◌&&◌, nat_lt, if◌then◌else◌, Option, Some, None, List, [], ◌∷◌, ◌++◌}
use Rattle.hp_event.specs.declared.op.Op.{Op}
use Rattle.hp_event.specs.declared.op.Op.TheVariants.{Disable, Enable, Freeze, Thaw}
pub use Rattle.hp_event.specs.Answers.{is_ok}
use Rattle.hp_event.specs.declared.event.Event.{Event}
use Rattle.hp_event.specs.declared.event.Event.TheVariants.{Enter, WalkEnd, OpEnd, Wakeup}
use Rattle.hp_model.specs.Journal.{over}
use Rattle.hp_model.specs.MapLock.{Operation, operation}

abbrev pub is_freeze : Op → Bool
is_freeze (Freeze primary) = true
is_freeze _ = false

abbrev pub is_thaw : Op → Bool
is_thaw Thaw = true
is_thaw _ = false

abbrev pub is_disabling : Op → Bool
is_disabling Disable = true
is_disabling (Freeze primary) = true
is_disabling _ = false

abbrev pub is_enabling : Op → Bool
is_enabling Enable = true
is_enabling _ = false

-- whether the map lock is held by such an operation
abbrev pub held_by : (Op → Bool) → Option Operation → Bool
held_by test None = false
held_by test (Some o) = test o.op

abbrev pub disabled_step : ℕ → List Event → Event → ℕ
disabled_step n before (Enter seat op) = if is_thaw op then n - 1 else n
disabled_step n before (OpEnd seat answer) =
    if held_by is_disabling (operation before)
    then n + 1
    else (if held_by is_enabling (operation before) then n - 1 else n)
disabled_step n before _ = n

-- how often hotplug is disabled: a freeze counts, whatever it answers, and a thaw takes its count back
unfoldable pub disabled : List Event → ℕ
disabled events = over disabled_step 0 events

abbrev pub is_disabled : List Event → Bool
is_disabled events = nat_lt 0 (disabled events)

abbrev pub frozen_step : List ℕ → List Event → Event → List ℕ
frozen_step found before (Enter seat op) = if is_freeze op then [] else found
frozen_step found before (WalkEnd seat cpu answer) =
    if held_by is_freeze (operation before) && is_ok answer then found ++ cpu ∷ [] else found
frozen_step found before (OpEnd seat answer) = if held_by is_thaw (operation before) then [] else found
frozen_step found before _ = found

-- the processors that the last freeze took down and no thaw brought up since, in rising number
unfoldable pub frozen : List Event → List ℕ
frozen events = over frozen_step [] events

abbrev pub wakeup_step : Bool → List Event → Event → Bool
wakeup_step found before (Wakeup seat) = true
wakeup_step found before (OpEnd seat answer) = if held_by is_freeze (operation before) then false else found
wakeup_step found before _ = found

-- whether a wakeup is pending; the end of a freeze clears it
unfoldable pub wakeup_pending : List Event → Bool
wakeup_pending events = over wakeup_step false events

-- Why a write to `target` or `fail` is refused for its value: conditions in their order, each with its error number.
-- The registrations are those of the table. After `target_store` and `fail_store` of `kernel/cpu.c`; each condition and
-- its number are this project's own.
use Rattle.std.specs.Prelude.{◌≡◌, ℕ, zero, suc, ℤ, pos, negsuc, Bool, true, false, not, ◌&&◌, ◌||◌, nat_le, nat_lt, Option, Some, None, Result, Ok, Err, List, [], ◌∷◌}
use Rattle.hp_states.specs.declared.limits.TheConstants.{BRINGUP_CPU, ONLINE, EINVAL}
use Rattle.hp_states.specs.Sections.{is_stop, is_atomic_state}
use Rattle.hp_event.specs.declared.head.Head.{Head}
use Rattle.hp_event.specs.declared.event.Event.{Event}
use Rattle.hp_model.specs.Registered as registered_of
use Rattle.hp_model.specs.Refusals.{can_be_armed}
use Rattle.hp_model.specs.RefusalsAtOnce.{Check, first_that_holds, if_so, is_state}
use Rattle.hp_model.specs.Sequence.{target_of}
use Rattle.hp_table.specs.Named.{is_named}
use Rattle.hp_table.specs.Step.{Step, step_at}

-- a value that isn't refused, or the error number
abbrev pub unless_refused : {A : Type 0} → Option ℕ → A → Result A ℕ
unless_refused None value = Ok value
unless_refused (Some errno) value = Err errno

-- a value for `target`: a state that has a name and at which a walk can be aimed
abbrev pub refusals_of_target_value : List (Option Step) → ℤ → List Check
refusals_of_target_value table v =
    if_so (not (is_state v)) EINVAL
    ∷ if_so (not (is_named table (target_of v))) EINVAL
    ∷ if_so (not (is_stop (target_of v))) EINVAL ∷ []

-- what a write of the value to `target` comes to by the table: its state, or the error number
abbrev pub target_by : List (Option Step) → ℤ → Result ℕ ℕ
target_by table v = unless_refused (first_that_holds (refusals_of_target_value table v)) (target_of v)

-- whether what is registered has a callback of some direction
abbrev pub has_callback_of : Option Step → Bool
has_callback_of None = false
has_callback_of (Some step) = step.kept.up || step.kept.down

abbrev pub has_callback_at : List (Option Step) → (state : ℕ) → Bool
has_callback_at table s = has_callback_of (step_at table s)

-- a value for `fail`: -1, or a state that can fail and that the processor, which shows this state, hasn't passed
abbrev pub refusals_of_fail_value : List (Option Step) → ℤ → (shown : ℕ) → List Check
refusals_of_fail_value table (negsuc zero) shown = []
refusals_of_fail_value table (negsuc (suc n)) shown = if_so true EINVAL ∷ []
refusals_of_fail_value table (pos s) shown =
    if_so (nat_lt ONLINE s) EINVAL
    ∷ if_so (is_atomic_state s) EINVAL
    ∷ if_so (nat_le s BRINGUP_CPU && nat_lt BRINGUP_CPU shown) EINVAL
    ∷ if_so (not (has_callback_at table s)) EINVAL ∷ []

-- what a write of it to `fail` comes to: the value, or the error number
abbrev pub fail_by : List (Option Step) → ℤ → (shown : ℕ) → Result ℤ ℕ
fail_by table v shown = unless_refused (first_that_holds (refusals_of_fail_value table v shown)) v

-- the states that have names in the table are those that have them after the events
abbrev pub HasNamesOf : Head → List Event → List (Option Step) → Type 0
HasNamesOf head events table = (s : ℕ) → registered_of.is_named head s events ≡ is_named table s

-- the states that have callbacks in the table are those that have them after the events
abbrev pub HasCallbacksOf : Head → List Event → List (Option Step) → Type 0
HasCallbacksOf head events table = (s : ℕ) → can_be_armed head s events ≡ has_callback_at table s

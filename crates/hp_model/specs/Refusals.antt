-- Refusals: those at once, and where nothing is waited for those after the waits. After `cpu_up`, `cpu_down`,
-- `target_store`, `fail_store` and the registration calls of `kernel/cpu.c`; each condition, its number and
-- its place are this project's own.
use Rattle.std.specs.Prelude.{◌≡◌, ℕ, zero, suc, ℤ, pos, negsuc, Bool, true, false, not, ◌&&◌, ◌||◌, ◌==◌, nat_le, nat_lt, if◌then◌else◌, is_none, Option, Some, None, List, [], ◌∷◌, ◌++◌, length, filter}
use Rattle.hp_states.specs.declared.dir.Dir.TheVariants.{Up, Down}
use Rattle.hp_states.specs.declared.limits.TheConstants.{BRINGUP_CPU, ONLINE, EBUSY, EINVAL, ENOSPC, MAX_INSTANCES, MAX_TABLE_INSTANCES}
use Rattle.hp_states.specs.Sections.{is_stop, is_atomic_state, is_dynamic}
use Rattle.hp_event.specs.declared.op.Op.{Op}
use Rattle.hp_event.specs.declared.op.Op.TheVariants.{Target, Arm, Setup, Remove, Add, Del, Boot, Enable, UpMany}
use Rattle.hp_event.specs.declared.head.Head.{Head}
use Rattle.hp_event.specs.declared.event.Event.{Event}
use Rattle.hp_states.specs.CpuSets.{has}
use Rattle.hp_model.specs.Lists.{is_empty, among, numbers}
use Rattle.hp_model.specs.Settled.{settled}
use Rattle.hp_model.specs.Shown.{shown}
use Rattle.hp_model.specs.Processors.{is_present, online}
use Rattle.hp_model.specs.Suspend.{disabled, is_disabled}
use Rattle.hp_model.specs.Sequence.{target_of}
use Rattle.hp_model.specs.Subsystems.{sub_numbered, has_callback}
use Rattle.hp_model.specs.Registered.{Registered, registered, is_named, instances, instance_count}
use Rattle.hp_model.specs.Calls.{number_found}
use Rattle.hp_model.specs.Resolved.{lowest_free}
use Rattle.hp_model.specs.Seats.{is_busy}
use Rattle.hp_model.specs.Waits.{is_waiting}
use Rattle.hp_model.specs.RefusalsAtOnce.{Check, if_so, first_that_holds, refusals_at_once}

abbrev pub one_online : Head → List Event → Bool
one_online head events = length (online head events) == 1

-- the way of a processor from the state where it stands: a target above the state is a way up, one below it a way down
abbrev pub refusals_of_way : Head → List Event → (cpu to now : ℕ) → List Check
refusals_of_way head events c to now =
    if_so (nat_lt now to && is_disabled events) EBUSY
    ∷ if_so (nat_lt now to && not (is_present head c)) EINVAL
    ∷ if_so (nat_lt to now && is_disabled events) EBUSY
    ∷ if_so (nat_lt to now && one_online head events) EBUSY ∷ []

-- a target has a name, a walk can be aimed at it, and the way to it isn't refused
abbrev pub refusals_of_target : Head → List Event → (cpu to now : ℕ) → List Check
refusals_of_target head events c to now =
    if_so (not (is_named head to events)) EINVAL
    ∷ if_so (not (is_stop to)) EINVAL
    ∷ refusals_of_way head events c to now

-- whether a state is registered with a callback of some direction
abbrev pub can_be_armed : Head → (state : ℕ) → List Event → Bool
can_be_armed head s events =
    has_callback (sub_numbered head (number_found (registered head s events))) Up
    || has_callback (sub_numbered head (number_found (registered head s events))) Down

-- a processor is armed at a state that can fail and that it hasn't passed
abbrev pub refusals_of_arm : Head → List Event → (cpu : ℕ) → ℤ → List Check
refusals_of_arm head events c (negsuc zero) = []
refusals_of_arm head events c (negsuc (suc n)) = if_so true EINVAL ∷ []
refusals_of_arm head events c (pos s) =
    if_so (nat_lt ONLINE s) EINVAL
    ∷ if_so (is_atomic_state s) EINVAL
    ∷ if_so (nat_le s BRINGUP_CPU && nat_lt BRINGUP_CPU (shown head c events)) EINVAL
    ∷ if_so (not (can_be_armed head s events)) EINVAL ∷ []

abbrev pub is_multi_state : Option Registered → Bool
is_multi_state None = false
is_multi_state (Some r) = r.multi

abbrev pub refusals_after_waits : Head → List Event → Op → List Check
refusals_after_waits head events (Op.Up c) =
    if_so (is_disabled events) EBUSY ∷ if_so (not (is_present head c)) EINVAL ∷ []
refusals_after_waits head events (Op.Down c) =
    if_so (is_disabled events) EBUSY
    ∷ if_so (one_online head events) EBUSY
    ∷ if_so (not (is_present head c)) EINVAL ∷ []
refusals_after_waits head events (Target c v) = refusals_of_target head events c (target_of v) (settled c events)
refusals_after_waits head events (Boot n) = if_so (is_disabled events) EBUSY ∷ []
refusals_after_waits head events (UpMany set) =
    if_so (is_disabled events) EBUSY
    ∷ if_so (not (is_empty (filter (λ c. has set c && not (is_present head c)) (numbers head.possible)))) EINVAL ∷ []
refusals_after_waits head events Enable = if_so (disabled events == 0) EINVAL ∷ []
refusals_after_waits head events (Arm c v) = refusals_of_arm head events c v
refusals_after_waits head events (Setup s sub form) =
    if_so (not (is_dynamic s) && is_named head s events) EBUSY
    ∷ if_so (is_dynamic s && is_none (lowest_free head s events)) ENOSPC ∷ []
refusals_after_waits head events (Remove s form) =
    if_so (is_none (registered head s events)) EINVAL
    ∷ if_so (not (is_empty (instances (registered head s events)))) EBUSY ∷ []
refusals_after_waits head events (Add s i form) =
    if_so (not (is_multi_state (registered head s events))) EINVAL
    ∷ if_so (among i (instances (registered head s events))) EBUSY
    ∷ if_so
    (nat_le MAX_INSTANCES (length (instances (registered head s events)))
    || nat_le MAX_TABLE_INSTANCES (instance_count head events)) ENOSPC ∷ []
refusals_after_waits head events (Del s i form) =
    if_so (not (is_multi_state (registered head s events))) EINVAL
    ∷ if_so (not (among i (instances (registered head s events)))) EINVAL ∷ []
refusals_after_waits head events _ = []

-- the error number of an operation that is refused; a seat with an operation in flight isn't refused
abbrev pub refusal : Head → List Event → (seat : ℕ) → Op → Option ℕ
refusal head events k op =
    if is_busy k events
    then None
    else first_that_holds
    (refusals_at_once head events k op ++ (if is_waiting events op then [] else refusals_after_waits head events op))

-- an operation that is neither refused nor kept waiting
pub record Passes (head : Head) (events : List Event) (seat : ℕ) (op : Op) : Type 0 where
  pub not_refused : refusal head events seat op ≡ None
  pub not_waiting : is_waiting events op ≡ false

-- Refusals at once, before any wait: conditions in their order, each with its error number. After the calls of
-- `kernel/cpu.c`; each condition, its number and its place are this project's own.
use Rattle.std.specs.Prelude.{ℕ, ℤ, pos, negsuc, Bool, false, not, ◌&&◌, ◌||◌, ◌==◌, nat_le, if◌then◌else◌, Option, Some, None, List, [], ◌∷◌, filter}
use Rattle.hp_states.specs.declared.limits.TheConstants.{ONLINE, EPERM, EINVAL, EDEADLK}
use Rattle.hp_event.specs.declared.op.Form.{Form}
use Rattle.hp_event.specs.declared.op.Op.{Op}
use Rattle.hp_event.specs.declared.op.Op.TheVariants.{Up, Down, Target, Arm, ShowState, ShowTarget, ShowFail, ShowStates, Setup, Remove, Add, Del, Lock, Unlock, Boot, Disable, Enable, Freeze, Thaw, Wakeup, UpMany}
use Rattle.hp_event.specs.declared.head.Head.{Head}
use Rattle.hp_event.specs.declared.event.Event.{Event}
use Rattle.hp_model.specs.Lists.{is_empty}
use Rattle.hp_model.specs.Listed.{listed}
use Rattle.hp_model.specs.Readers.{is_reading}
use Rattle.hp_model.specs.Processors.{is_possible}
use Rattle.hp_model.specs.Subsystems.{sub_numbered, has_no_name}

-- a condition with its error number
pub record Check : Type 0 where
  pub holds : Bool
  pub errno : ℕ

abbrev pub if_so : Bool → ℕ → Check
if_so b n = record { holds = b; errno = n }

-- the number of the first condition that holds
abbrev pub first_that_holds : List Check → Option ℕ
first_that_holds [] = None
first_that_holds (x ∷ xs) = if x.holds then Some x.errno else first_that_holds xs

-- a number that is a state
abbrev pub is_state : ℤ → Bool
is_state (pos n) = nat_le n ONLINE
is_state (negsuc n) = false

-- The locked form is for a caller in a read section of its own, the other for one outside. Further conditions
-- come after these.
abbrev pub if_form : (reading : Bool) → Form → List Check → List Check
if_form reading form more =
    if_so (reading && not form.locked) EDEADLK ∷ if_so (not reading && form.locked) EPERM ∷ more

abbrev pub refusals_at_once : Head → List Event → (seat : ℕ) → Op → List Check
refusals_at_once head events k (Up c) =
    if_so (is_reading k events) EDEADLK ∷ if_so (not (is_possible head c)) EINVAL ∷ []
refusals_at_once head events k (Down c) =
    if_so (is_reading k events) EDEADLK ∷ if_so (not (is_possible head c)) EINVAL ∷ []
refusals_at_once head events k (Target c v) =
    if_so (is_reading k events) EDEADLK
    ∷ if_so (not (is_possible head c)) EINVAL
    ∷ if_so (not (is_state v)) EINVAL ∷ []
refusals_at_once head events k (Boot n) = if_so (is_reading k events) EDEADLK ∷ []
refusals_at_once head events k Disable = if_so (is_reading k events) EDEADLK ∷ []
refusals_at_once head events k Enable = if_so (is_reading k events) EDEADLK ∷ []
refusals_at_once head events k (Freeze p) = if_so (is_reading k events) EDEADLK ∷ []
refusals_at_once head events k Thaw = if_so (is_reading k events) EDEADLK ∷ []
refusals_at_once head events k (UpMany set) =
    if_so (is_reading k events) EDEADLK
    ∷ if_so (not (is_empty (filter (λ c. not (is_possible head c)) (listed set)))) EINVAL ∷ []
refusals_at_once head events k Wakeup = []
refusals_at_once head events k (Arm c v) = if_so (not (is_possible head c)) EINVAL ∷ []
refusals_at_once head events k (ShowState c) = if_so (not (is_possible head c)) EINVAL ∷ []
refusals_at_once head events k (ShowTarget c) = if_so (not (is_possible head c)) EINVAL ∷ []
refusals_at_once head events k (ShowFail c) = if_so (not (is_possible head c)) EINVAL ∷ []
refusals_at_once head events k ShowStates = []
refusals_at_once head events k Lock = if_so (is_reading k events) EDEADLK ∷ []
refusals_at_once head events k Unlock = if_so (not (is_reading k events)) EPERM ∷ []
refusals_at_once head events k (Setup s sub form) =
    if_form (is_reading k events) form
    (if_so (s == 0 || (nat_le ONLINE s || has_no_name (sub_numbered head sub))) EINVAL ∷ [])
refusals_at_once head events k (Remove s form) = if_form (is_reading k events) form []
refusals_at_once head events k (Add s i form) = if_form (is_reading k events) form (if_so (i == 0) EINVAL ∷ [])
refusals_at_once head events k (Del s i form) = if_form (is_reading k events) form []

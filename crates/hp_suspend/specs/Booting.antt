-- What a boot in flight keeps of the journal: how many processors it is to bring online, how many of its walks failed,
-- and how many of these turned back. After `bringup_nonboot_cpus` of `kernel/cpu.c`; that a boot counts them is this
-- project's own.
use Rattle.std.specs.Prelude.{◌≡◌, ◌≤◌, ℕ, Bool, true, false, List, [], ◌∷◌, ◌++◌, length, filter}
use Rattle.hp_event.specs.declared.answer.Answer.{Answer}
use Rattle.hp_event.specs.declared.answer.Answer.TheVariants.{Ok, Refused, Fault, Stuck, LogFull}
use Rattle.hp_event.specs.declared.event.Event.{Event}
use Rattle.hp_event.specs.declared.event.Event.TheVariants.{Enter, WalkEnd}
use Rattle.hp_event.specs.declared.op.Op.TheVariants as op
use Rattle.hp_model.specs.Sequence.{answers, failures}
use Rattle.hp_suspend.specs.declared.boot.Boot.{Boot}

-- a walk with such an answer has left its processor where it stood
abbrev pub is_fault : Answer → Bool
is_fault (Ok value) = false
is_fault (Refused errno) = false
is_fault (Fault code) = true
is_fault (Stuck first second at) = false
is_fault LogFull = false

-- those that turned back
abbrev pub faults : List Answer → List Answer
faults xs = filter is_fault xs

pub record IsBooting (max : ℕ) (events : List Event) (b : Boot) : Type 0 where
  pub max_is : b.max ≡ max
  pub failed_is : b.failed ≡ length (failures (answers events))
  pub turned_back_is : b.turned_back ≡ length (faults (answers events))

-- whatever journal the boot enters after, it keeps of it what it is to keep
abbrev pub BootEnters : (max : ℕ) → Boot → Type 0
BootEnters max b = (before : List Event) (seat : ℕ) → IsBooting max (before ++ Enter seat (op.Boot max) ∷ []) b

-- of whatever journal it kept, it keeps as much once a walk has ended with this answer
abbrev pub BootTook : Boot → Answer → Boot → Type 0
BootTook b answer new =
    (max : ℕ) (events : List Event) (seat cpu : ℕ) → IsBooting max events b →
    IsBooting max (events ++ WalkEnd seat cpu answer ∷ []) new

-- and this event, made next, leaves all of a boot as it is
abbrev pub LeavesBoot : Event → Type 0
LeavesBoot event =
    (max : ℕ) (events : List Event) (b : Boot) → IsBooting max events b → IsBooting max (events ++ event ∷ []) b

-- no more of its walks failed or turned back than there are events
abbrev pub FewFailuresOfBoot : List Event → Type 0
FewFailuresOfBoot events =
    (max : ℕ) (b : Boot) → IsBooting max events b → (b.failed ≤ length events) × (b.turned_back ≤ length events)

-- What a thaw in flight keeps of the journal: how many of its walks failed. After `thaw_secondary_cpus` of
-- `kernel/cpu.c`; that a thaw counts them is this project's own.
use Rattle.std.specs.Prelude.{◌≡◌, ℕ, List, [], ◌∷◌, ◌++◌, length}
use Rattle.hp_event.specs.declared.answer.Answer.{Answer}
use Rattle.hp_event.specs.declared.event.Event.{Event}
use Rattle.hp_event.specs.declared.event.Event.TheVariants.{Enter, WalkEnd}
use Rattle.hp_event.specs.declared.op.Op.TheVariants as op
use Rattle.hp_model.specs.Sequence.{answers, failures}
use Rattle.hp_suspend.specs.declared.thaw.Thaw.{Thaw}

pub record IsThawing (events : List Event) (t : Thaw) : Type 0 where
  pub failed_is : t.failed ≡ length (failures (answers events))

-- whatever journal the thaw enters after, it keeps of it what it is to keep
abbrev pub ThawEnters : Thaw → Type 0
ThawEnters t = (before : List Event) (seat : ℕ) → IsThawing (before ++ Enter seat op.Thaw ∷ []) t

-- of whatever journal it kept, it keeps as much once a walk has ended with this answer
abbrev pub ThawTook : Thaw → Answer → Thaw → Type 0
ThawTook t answer new =
    (events : List Event) (seat cpu : ℕ) → IsThawing events t → IsThawing (events ++ WalkEnd seat cpu answer ∷ []) new

-- and this event, made next, leaves all of a thaw as it is
abbrev pub LeavesThaw : Event → Type 0
LeavesThaw event = (events : List Event) (t : Thaw) → IsThawing events t → IsThawing (events ++ event ∷ []) t

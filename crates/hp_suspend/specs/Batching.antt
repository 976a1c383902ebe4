-- What an upmany in flight keeps of the journal: which of its batch haven't begun, whether one has, and how many of its
-- walks failed. This project's own.
use Rattle.std.specs.Prelude.{◌≡◌, ◌≤◌, ℕ, not, Some, List, [], ◌∷◌, ◌++◌, length, slice_get}
use Rattle.hp_states.specs.declared.cpu_set.CpuSet.{CpuSet}
use Rattle.hp_states.specs.CpuSets.{has}
use Rattle.hp_event.specs.declared.head.Head.{Head}
use Rattle.hp_event.specs.declared.answer.Answer.{Answer}
use Rattle.hp_event.specs.declared.event.Event.{Event}
use Rattle.hp_event.specs.declared.event.Event.TheVariants.{Enter, WalkBegin, WalkEnd}
use Rattle.hp_event.specs.declared.op.Op.TheVariants.{UpMany}
use Rattle.hp_model.specs.Batch.{begun, batch, unbegun, to_begin}
use Rattle.hp_model.specs.MapLock.{Operation, operation}
use Rattle.hp_model.specs.Lawful.{IsLawful}
use Rattle.hp_model.specs.Lists.{is_empty, among}
use Rattle.hp_model.specs.Sequence.{answers, failures}
use Rattle.hp_suspend.specs.declared.batch.Batch.{Batch}
use Rattle.hp_suspend.specs.Tables.{AreSettled}

pub record IsBatching (head : Head) (entered events : List Event) (set : CpuSet) (b : Batch) : Type 0 where
  pub left_is : (c : ℕ) → has b.left c ≡ among c (unbegun (batch head entered (UpMany set)) events)
  pub begun_is : b.begun ≡ not (is_empty (begun events))
  pub failed_is : b.failed ≡ length (failures (answers events))

-- whatever journal an upmany of the set enters after, by a list that says where each processor stands, it keeps of it
-- what it is to keep
abbrev pub BatchEnters : CpuSet → (settled : List ℕ) → Batch → Type 0
BatchEnters set settled b =
    (head : Head) (before : List Event) (seat : ℕ) → AreSettled head before settled →
    IsBatching head before (before ++ Enter seat (UpMany set) ∷ []) set b

-- of whatever lawful journal it is in flight in and kept, it keeps as much once the walk that is next there has begun
abbrev pub BatchBegan : Batch → (cpu : ℕ) → Batch → Type 0
BatchBegan b cpu new =
    (head : Head) (events : List Event) (o : Operation) (set : CpuSet) (seat stood to : ℕ) → IsLawful head events →
    operation events ≡ Some o → o.op ≡ UpMany set → IsBatching head o.before events set b →
    slice_get (to_begin head events) 0 ≡ Some cpu →
    IsBatching head o.before (events ++ WalkBegin seat cpu stood to ∷ []) set new

-- and of whatever journal it kept, once a walk has ended with this answer
abbrev pub BatchTook : Batch → Answer → Batch → Type 0
BatchTook b answer new =
    (head : Head) (entered events : List Event) (set : CpuSet) (seat cpu : ℕ) → IsBatching head entered events set b →
    IsBatching head entered (events ++ WalkEnd seat cpu answer ∷ []) set new

-- and this event, made next, leaves all of an upmany as it is
abbrev pub LeavesBatch : Event → Type 0
LeavesBatch event =
    (head : Head) (entered events : List Event) (set : CpuSet) (b : Batch) → IsBatching head entered events set b →
    IsBatching head entered (events ++ event ∷ []) set b

-- after any journal no more walks of an upmany have failed than there are events
abbrev pub FewFailuresOfBatch : List Event → Type 0
FewFailuresOfBatch events =
    (head : Head) (entered : List Event) (set : CpuSet) (b : Batch) → IsBatching head entered events set b →
    b.failed ≤ length events

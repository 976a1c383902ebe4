-- What comes next of a freeze, a thaw, a boot and an upmany by the journal: by whatever lawful journal has the operation
-- in flight, with nothing walking unless it is an upmany, where it keeps of that journal what it is to keep, and the
-- lists say what the journal says. This project's own; what comes next by a journal is hp_model's.
use Rattle.std.specs.Prelude.{◌≡◌, ℕ, ℤ, Bool, Option, Some, List, [], slice_get}
use Rattle.hp_states.specs.declared.cpu_set.CpuSet.{CpuSet}
use Rattle.hp_event.specs.declared.head.Head.{Head}
use Rattle.hp_event.specs.declared.event.Event.{Event}
use Rattle.hp_event.specs.declared.op.Op.TheVariants as op
use Rattle.hp_model.specs.Walks.{walking}
use Rattle.hp_model.specs.MapLock.{Operation, operation}
use Rattle.hp_model.specs.Suspend.{wakeup_pending}
use Rattle.hp_model.specs.Sequence.{Next, next as next_of}
use Rattle.hp_model.specs.Batch.{to_begin}
use Rattle.hp_model.specs.Lawful.{IsLawful}
use Rattle.hp_suspend.specs.declared.freeze.Freeze.{Freeze}
use Rattle.hp_suspend.specs.declared.thaw.Thaw.{Thaw}
use Rattle.hp_suspend.specs.declared.boot.Boot.{Boot}
use Rattle.hp_suspend.specs.declared.batch.Batch.{Batch}
use Rattle.hp_suspend.specs.Tables.{AreOnline, ArePresent, AreFrozen, AreSettled}
use Rattle.hp_suspend.specs.Freezing.{IsFreezing}
use Rattle.hp_suspend.specs.Thawing.{IsThawing}
use Rattle.hp_suspend.specs.Booting.{IsBooting}
use Rattle.hp_suspend.specs.Batching.{IsBatching}

-- this is what comes next of a freeze, by which processors are online and whether a wakeup is pending
abbrev pub IsNextOfFreeze : Freeze → (online : List Bool) → (wakeup : Bool) → Next → Type 0
IsNextOfFreeze f online wakeup next =
    (head : Head) (events : List Event) (o : Operation) (primary : ℤ) → IsLawful head events →
    operation events ≡ Some o → o.op ≡ op.Freeze primary → walking events ≡ [] →
    IsFreezing head o.before events primary f → AreOnline head events online → wakeup ≡ wakeup_pending events →
    next ≡ next_of head events o.before o.op

-- of a thaw, by which processors are in the record of the last freeze and where each stands
abbrev pub IsNextOfThaw : Thaw → (frozen : List Bool) → (settled : List ℕ) → Next → Type 0
IsNextOfThaw t frozen settled next =
    (head : Head) (events : List Event) (o : Operation) → IsLawful head events →
    operation events ≡ Some o → o.op ≡ op.Thaw → walking events ≡ [] →
    IsThawing events t → AreFrozen head events frozen → AreSettled head events settled →
    next ≡ next_of head events o.before o.op

-- of a boot, by which processors are present and which are online
abbrev pub IsNextOfBoot : Boot → (present online : List Bool) → Next → Type 0
IsNextOfBoot b present online next =
    (head : Head) (events : List Event) (o : Operation) (max : ℕ) → IsLawful head events →
    operation events ≡ Some o → o.op ≡ op.Boot max → walking events ≡ [] →
    IsBooting max events b → ArePresent head present → AreOnline head events online →
    next ≡ next_of head events o.before o.op

-- and of an upmany: the lowest of its batch that hasn't begun, if there is one
abbrev pub IsNextOfBatch : Batch → Option ℕ → Type 0
IsNextOfBatch b next =
    (head : Head) (events : List Event) (o : Operation) (set : CpuSet) → IsLawful head events →
    operation events ≡ Some o → o.op ≡ op.UpMany set → IsBatching head o.before events set b →
    next ≡ slice_get (to_begin head events) 0

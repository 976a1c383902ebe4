-- What becomes of the operation that holds the map lock, in whichever lawful journal it does: its walks as it enters, what comes next of
-- it, and what the begin and the end of a walk make of it. After `_cpu_up` and `_cpu_down`, and the loops of `kernel/cpu.c` over
-- processors.
use Rattle.std.specs.Prelude.{◌≡◌, ℕ, Option, Some, List, [], ◌∷◌, ◌++◌, slice_index}
use Rattle.hp_event.specs.declared.answer.Answer.{Answer}
use Rattle.hp_event.specs.declared.op.Op.{Op}
use Rattle.hp_event.specs.declared.head.Head.{Head}
use Rattle.hp_event.specs.declared.event.Event.{Event}
use Rattle.hp_event.specs.declared.event.Event.TheVariants.{Enter, WalkBegin, WalkEnd}
use Rattle.hp_model.specs.Lawful.{Comes, IsLawful}
use Rattle.hp_model.specs.MapLock.{Operation, operation}
use Rattle.hp_model.specs.Sequence.{Next, next}
use Rattle.hp_model.specs.Walks.{walking}
use Rattle.hp_account.specs.declared.operation.OneWalk.{OneWalk}
use Rattle.hp_account.specs.declared.operation.Walks.{Walks}
use Rattle.hp_account.specs.declared.operation.MapOperation.{MapOperation}
use Rattle.hp_account.specs.Operations.{AreWalks, IsSingle, IsHeld, IsHeldBy, single_by}
use Rattle.hp_account.specs.Processors.{ProcessorsView, IsStanding}
use Rattle.hp_account.specs.Suspended.{SuspendedView, IsSuspended}

-- these are the walks of an operation that has just entered, where the processors stand so
abbrev pub EntersWith : Op → ProcessorsView → Walks → Type 0
EntersWith op standing sequence =
    (head : Head) (before : List Event) (seat : ℕ) → IsStanding head before standing →
    AreWalks head before (before ++ Enter seat op ∷ []) op sequence

-- they went on past a walk, which answered this
abbrev pub WentPast : Answer → (old new : Walks) → Type 0
WentPast answer old new =
    (head : Head) (entered events : List Event) (op : Op) (seat cpu : ℕ) → AreWalks head entered events op old →
    AreWalks head entered (events ++ WalkEnd seat cpu answer ∷ []) op new

-- the one walk of an up, a down or a target has ended, and answered this
abbrev pub EndedWith : Answer → (old new : OneWalk) → Type 0
EndedWith answer old new =
    (cpu to : ℕ) (events : List Event) (seat of : ℕ) → IsSingle cpu to events old →
    IsSingle cpu to (events ++ WalkEnd seat of answer ∷ []) new

-- what comes next of that walk, where the processors stand at these states
abbrev pub next_of_single : OneWalk → (settled : List ℕ) → Next
next_of_single w settled = single_by w.cpu w.to (slice_index settled w.cpu) w.answer

-- the operation went on past the begin of the walk of a processor, which came next of it
abbrev pub BeganWalk : (cpu : ℕ) → (old new : MapOperation) → Type 0
BeganWalk cpu old new =
    (head : Head) (events : List Event) (seat from to : ℕ) → IsLawful head events →
    Comes head events (WalkBegin seat cpu from to) → IsHeld head events old →
    IsHeld head (events ++ WalkBegin seat cpu from to ∷ []) new

-- while nothing walks this comes next of it, where the processors and the suspension are so
abbrev pub IsNextOfOperation : MapOperation → ProcessorsView → SuspendedView → Next → Type 0
IsNextOfOperation held standing suspension what =
    (head : Head) (events : List Event) (o : Operation) → IsLawful head events → IsHeld head events held →
    operation events ≡ Some o → walking events ≡ [] → IsStanding head events standing →
    IsSuspended head events suspension → what ≡ next head events o.before o.op

-- an event came, and the operation begins, goes on past a walk, ends, or is as it was
abbrev pub Operated : Event → ProcessorsView → (old new : Option MapOperation) → Type 0
Operated e standing old new =
    (head : Head) (events : List Event) → IsLawful head events → Comes head events e → IsStanding head events standing →
    IsHeldBy head events old → IsHeldBy head (events ++ e ∷ []) new

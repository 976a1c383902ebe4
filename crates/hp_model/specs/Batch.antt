-- Batches: an upmany brings several processors up together, those that it lists and that aren't up when it enters. It holds
-- the write side of the hotplug lock from its first WalkBegin to its end. This project's own.
use Rattle.std.specs.Prelude.{ℕ, Bool, not, ◌&&◌, nat_lt, Option, Some, None, List, [], ◌∷◌, ◌++◌, filter}
use Rattle.hp_states.specs.declared.limits.TheConstants.{ONLINE}
use Rattle.hp_states.specs.CpuSets.{has}
use Rattle.hp_event.specs.declared.op.Op.{Op}
use Rattle.hp_event.specs.declared.op.Op.TheVariants.{UpMany}
use Rattle.hp_event.specs.declared.head.Head.{Head}
use Rattle.hp_event.specs.declared.event.Event.{Event}
use Rattle.hp_event.specs.declared.event.Event.TheVariants.{Enter, WalkBegin}
pub use Rattle.hp_event.specs.Ops.{is_upmany}
use Rattle.hp_model.specs.Journal.{over}
use Rattle.hp_model.specs.Lists.{is_empty, among, numbers}
use Rattle.hp_model.specs.MapLock.{Operation, operation}
use Rattle.hp_model.specs.Settled.{settled}
use Rattle.hp_model.specs.Suspend.{held_by}

abbrev pub begun_step : List ℕ → List Event → Event → List ℕ
begun_step found before (Enter seat op) = []
begun_step found before (WalkBegin seat cpu from to) = found ++ cpu ∷ []
begun_step found before _ = found

-- the processors whose walks began since the last Enter
unfoldable pub begun : List Event → List ℕ
begun events = over begun_step [] events

-- the processors of the batch, in rising number; no operation but an upmany has any
abbrev pub batch : Head → (entered : List Event) → Op → List ℕ
batch head entered (UpMany set) =
    filter (λ c. has set c && nat_lt (settled c entered) ONLINE) (numbers head.possible)
batch head entered _ = []

-- those of them whose walks haven't begun
abbrev pub unbegun : (batch : List ℕ) → List Event → List ℕ
unbegun cs events = filter (λ c. not (among c (begun events))) cs

abbrev pub to_begin_of : Head → Option Operation → List Event → List ℕ
to_begin_of head None events = []
to_begin_of head (Some o) events = unbegun (batch head o.before o.op) events

-- the processors whose walks the upmany in flight is still to begin
abbrev pub to_begin : Head → List Event → List ℕ
to_begin head events = to_begin_of head (operation events) events

-- whether an upmany is in flight and has begun a walk
abbrev pub is_batch_begun : List Event → Bool
is_batch_begun events = held_by is_upmany (operation events) && not (is_empty (begun events))

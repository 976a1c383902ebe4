-- What a freeze in flight keeps of the journal: the processor that it leaves online, and the first of its walks'
-- answers that isn't Ok. After `freeze_secondary_cpus` of `kernel/cpu.c`.
use Rattle.std.specs.Prelude.{◌≡◌, ℕ, ℤ, Bool, List, [], ◌∷◌, ◌++◌, filter, slice_get}
use Rattle.hp_event.specs.declared.head.Head.{Head}
use Rattle.hp_event.specs.declared.answer.Answer.{Answer}
use Rattle.hp_event.specs.declared.event.Event.{Event}
use Rattle.hp_event.specs.declared.event.Event.TheVariants.{Enter, WalkEnd}
use Rattle.hp_event.specs.declared.op.Op.TheVariants as op
use Rattle.hp_model.specs.Lists.{among, numbers}
use Rattle.hp_model.specs.Processors.{online}
use Rattle.hp_model.specs.Sequence.{answers, failures, primary_of}
use Rattle.hp_suspend.specs.declared.freeze.Freeze.{Freeze}
use Rattle.hp_suspend.specs.Tables.{AreOnline}

-- the freeze entered after the first events, and now these have been made
pub record IsFreezing (head : Head) (entered events : List Event) (primary : ℤ) (f : Freeze) : Type 0 where
  pub primary_is : f.primary ≡ primary_of primary (online head entered)
  pub ended_is : f.ended ≡ slice_get (failures (answers events)) 0

-- whatever journal a freeze enters after, by a list that says which processors are online, it keeps of it what it is to
-- keep
abbrev pub FreezeEnters : (primary : ℤ) → (online : List Bool) → Freeze → Type 0
FreezeEnters primary online f =
    (head : Head) (before : List Event) (seat : ℕ) → AreOnline head before online →
    IsFreezing head before (before ++ Enter seat (op.Freeze primary) ∷ []) primary f

-- of whatever journal it kept, it keeps as much once a walk has ended with this answer
abbrev pub FreezeTook : Freeze → Answer → Freeze → Type 0
FreezeTook f answer g =
    (head : Head) (entered events : List Event) (primary : ℤ) (seat cpu : ℕ) → IsFreezing head entered events primary f →
    IsFreezing head entered (events ++ WalkEnd seat cpu answer ∷ []) primary g

-- and this event, made next, leaves all of a freeze as it is
abbrev pub LeavesFreeze : Event → Type 0
LeavesFreeze event =
    (head : Head) (entered events : List Event) (primary : ℤ) (f : Freeze) → IsFreezing head entered events primary f →
    IsFreezing head entered (events ++ event ∷ []) primary f

-- some processors are possible ones, in rising number
abbrev pub ArePossibleRising : Head → (cpus : List ℕ) → Type 0
ArePossibleRising head cs = cs ≡ filter (λ c. among c cs) (numbers head.possible)

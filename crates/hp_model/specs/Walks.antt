-- Walks in flight, one for each processor at most, and their entries. After `cpuhp_up_callbacks` and
-- `cpuhp_down_callbacks` of `kernel/cpu.c`, between `cpus_write_lock` and `cpus_write_unlock`; what a second fault does
-- is this project's own.
use Rattle.std.specs.Prelude.{◌≡◌, ℕ, Bool, true, false, not, ◌==◌, if◌then◌else◌, is_some, Option, Some, None, List, [], ◌∷◌, ◌++◌}
use Rattle.hp_event.specs.declared.event.Event.{Event}
use Rattle.hp_event.specs.declared.event.Event.TheVariants.{WalkBegin, Call, WalkEnd}
use Rattle.hp_model.specs.Journal.{over}
use Rattle.hp_model.specs.Lists.{is_empty, without}

-- a walk in flight: who walks, where from, where to, and the events before its WalkBegin
pub record Walk : Type 0 where
  pub seat : ℕ
  pub from : ℕ
  pub to : ℕ
  pub before : List Event

abbrev pub walk_step : (cpu : ℕ) → Option Walk → List Event → Event → Option Walk
walk_step c found before (WalkBegin seat cpu from to) =
    if cpu == c then Some (record { seat = seat; from = from; to = to; before = before }) else found
walk_step c found before (WalkEnd seat cpu answer) = if cpu == c then None else found
walk_step c found before _ = found

-- the walk of a processor that has begun and not ended
unfoldable pub walk : (cpu : ℕ) → List Event → Option Walk
walk c events = over (walk_step c) None events

-- no processor walks
abbrev pub NobodyWalks : List Event → Type 0
NobodyWalks events = (cpu : ℕ) → walk cpu events ≡ None

abbrev pub entries_step : (cpu : ℕ) → List Event → List Event → Event → List Event
entries_step c found before (WalkBegin seat cpu from to) = if cpu == c then [] else found
entries_step c found before (Call seat cpu state inst dir how) =
    if cpu == c then found ++ Call seat cpu state inst dir how ∷ [] else found
entries_step c found before _ = found

-- the entries of a processor since its last WalkBegin
unfoldable pub walk_entries : (cpu : ℕ) → List Event → List Event
walk_entries c events = over (entries_step c) [] events

abbrev pub walking_step : List ℕ → List Event → Event → List ℕ
walking_step found before (WalkBegin seat cpu from to) = without cpu found ++ cpu ∷ []
walking_step found before (WalkEnd seat cpu answer) = without cpu found
walking_step found before _ = found

-- the processors whose walks are in flight
unfoldable pub walking : List Event → List ℕ
walking events = over walking_step [] events

abbrev pub is_walking : List Event → Bool
is_walking events = not (is_empty (walking events))

abbrev pub touched_step : (cpu other : ℕ) → Bool → List Event → Event → Bool
touched_step c o found before (WalkBegin seat cpu from to) =
    if cpu == o then true else (if cpu == c then is_some (walk o before) else found)
touched_step c o found before _ = found

-- whether a walk of the other processor has been in flight since the last WalkBegin of the first
unfoldable pub touched : (cpu other : ℕ) → List Event → Bool
touched c o events = over (touched_step c o) false events

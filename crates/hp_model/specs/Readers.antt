-- Read sections. After `cpus_read_lock` and `cpus_read_unlock` of `kernel/cpu.c`.
use Rattle.std.specs.Prelude.{ℕ, Bool, not, ◌==◌, if◌then◌else◌, is_some, Option, Some, None, List, [], ◌∷◌, ◌++◌}
use Rattle.hp_event.specs.declared.event.Event.{Event}
use Rattle.hp_event.specs.declared.event.Event.TheVariants.{ReadLock, ReadUnlock}
use Rattle.hp_model.specs.Journal.{over}
use Rattle.hp_model.specs.Lists.{is_empty, without}

abbrev pub reading_since_step : (seat : ℕ) → Option (List Event) → List Event → Event → Option (List Event)
reading_since_step k found before (ReadLock seat) = if seat == k then Some before else found
reading_since_step k found before (ReadUnlock seat) = if seat == k then None else found
reading_since_step k found before _ = found

-- the events before the ReadLock of a seat that has no ReadUnlock after it; none for a seat that doesn't read
unfoldable pub reading_since : (seat : ℕ) → List Event → Option (List Event)
reading_since k events = over (reading_since_step k) None events

abbrev pub is_reading : (seat : ℕ) → List Event → Bool
is_reading k events = is_some (reading_since k events)

abbrev pub readers_step : List ℕ → List Event → Event → List ℕ
readers_step found before (ReadLock seat) = without seat found ++ seat ∷ []
readers_step found before (ReadUnlock seat) = without seat found
readers_step found before _ = found

-- the seats that read
unfoldable pub readers : List Event → List ℕ
readers events = over readers_step [] events

abbrev pub is_read : List Event → Bool
is_read events = not (is_empty (readers events))

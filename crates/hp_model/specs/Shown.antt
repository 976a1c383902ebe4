-- The state that the `state` file shows: at rest the settled state, during a walk that of the last done crossing, less 1
-- if it went down. And where a walk is going, which the `target` file shows. After `state_show` and
-- `target_show` of `kernel/cpu.c`; what they show in flight, and `target` after a stuck walk and before the boot
-- processor's first, is this project's own.
use Rattle.std.specs.Prelude.{ℕ, Bool, false, ◌&&◌, ◌==◌, if◌then◌else◌, Option, Some, None, List, [], ◌∷◌, fold}
use Rattle.hp_event.specs.declared.head.Head.{Head}
use Rattle.hp_event.specs.declared.event.Event.{Event}
use Rattle.hp_event.specs.declared.event.Event.TheVariants.{Call}
use Rattle.hp_model.specs.Lists.{is_empty}
use Rattle.hp_model.specs.Entries.{is_done, codes_of_faults}
use Rattle.hp_model.specs.Walks.{Walk, walk, walk_entries}
use Rattle.hp_model.specs.Registered.{keys}
use Rattle.hp_model.specs.Crossing.{far}
use Rattle.hp_model.specs.Settled.{settled}

abbrev pub is_last : List ℕ → ℕ → Bool
is_last [] i = false
is_last (x ∷ []) i = x == i
is_last (x ∷ (y ∷ ys)) i = is_last (y ∷ ys) i

-- A crossing is done with the entry of the last key of its state: where one of the state's keys fails, what
-- is undone are the keys before it.
abbrev pub shown_after : (keys : ℕ → List ℕ) → (at : ℕ) → Event → ℕ
shown_after keys at (Call seat cpu state inst dir how) =
    if is_done how && is_last (keys state) inst then far dir state else at
shown_after keys at _ = at

abbrev pub shown_in : Head → Option Walk → (entries : List Event) → (settled : ℕ) → ℕ
shown_in head None entries at = at
shown_in head (Some w) entries at = fold (shown_after (keys head w.before)) w.from entries

abbrev pub shown : Head → (cpu : ℕ) → List Event → ℕ
shown head c events = shown_in head (walk c events) (walk_entries c events) (settled c events)

-- where a walk is going: to its end, and from its first fault on back to its start
abbrev pub heading : (from to : ℕ) → (entries : List Event) → ℕ
heading from to entries = if is_empty (codes_of_faults entries) then to else from

abbrev pub target_in : Option Walk → (entries : List Event) → (settled : ℕ) → ℕ
target_in None entries at = at
target_in (Some w) entries at = heading w.from w.to entries

-- what the `target` file shows: at rest the settled state
abbrev pub shown_target : (cpu : ℕ) → List Event → ℕ
shown_target c events = target_in (walk c events) (walk_entries c events) (settled c events)

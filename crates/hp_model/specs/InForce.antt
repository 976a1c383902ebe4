-- In force: a callback is in force on a processor where more of its upward entries than of its downward
-- entries are done there. This project's own.
use Rattle.std.specs.Prelude.{ℕ, ◌<◌, Bool, false, ◌&&◌, ◌==◌, List, count_by}
use Rattle.hp_states.specs.declared.dir.Dir.{Dir}
use Rattle.hp_states.specs.declared.dir.Dir.TheVariants.{Up, Down}
use Rattle.hp_states.specs.Rules.{same_dir}
use Rattle.hp_event.specs.declared.event.Event.{Event}
use Rattle.hp_event.specs.declared.event.Event.TheVariants.{Call}
use Rattle.hp_model.specs.Entries.{is_done}

-- an entry of that processor, key and direction that is done
abbrev pub is_done_entry : (cpu state inst : ℕ) → Dir → Event → Bool
is_done_entry c s i d (Call seat cpu state inst dir how) =
    (cpu == c && same_dir dir d) && ((state == s && inst == i) && is_done how)
is_done_entry c s i d _ = false

unfoldable pub done_entries : (cpu state inst : ℕ) → Dir → List Event → ℕ
done_entries c s i d events = count_by (is_done_entry c s i d) events

abbrev pub ups : (cpu state inst : ℕ) → List Event → ℕ
ups c s i events = done_entries c s i Up events

abbrev pub downs : (cpu state inst : ℕ) → List Event → ℕ
downs c s i events = done_entries c s i Down events

abbrev pub IsInForce : (cpu state inst : ℕ) → List Event → Type 0
IsInForce c s i events = downs c s i events < ups c s i events

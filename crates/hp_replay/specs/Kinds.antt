-- Of which kind the first line is that can't stand in a version, by the lines before it and the grammar. This project's own.
use Rattle.std.specs.Prelude.{ℕ, Bool, true, false, if◌then◌else◌, List, [], ◌∷◌, Option, Some, None, codes}
use Rattle.std.specs.List.{list_any}
use Rattle.std.specs.Str.{bytes_eq}
use Rattle.hp_model.specs.Words.{line}
use Rattle.hp_event.specs.declared.version.Version.{Version}
use Rattle.hp_replay.specs.declared.error.ReplayKind.{ReplayKind}
use Rattle.hp_replay.specs.declared.error.ReplayKind.TheVariants.{Header, Syntax, Unlawful, Count, Trailing}
use Rattle.hp_replay.specs.EventAt.{event_at}
use Rattle.hp_replay.specs.EndAt.{end_at}

abbrev pub is_there : {A : Type 0} → Option A → Bool
is_there None = false
is_there (Some a) = true

abbrev pub is_events_line : (line : List ℕ) → Bool
is_events_line l = bytes_eq l (line (codes "events" ∷ []))

abbrev pub is_end_line : (line : List ℕ) → Bool
is_end_line l = is_there (end_at l)

-- a line after `events` and up to the `end` line
abbrev pub kind_among_events : Version → (line : List ℕ) → ReplayKind
kind_among_events v l = if is_there (event_at v l) then Unlawful else (if is_end_line l then Count else Syntax)

abbrev pub kind_of : Version → (before : List (List ℕ)) → (line : List ℕ) → ReplayKind
kind_of v before l =
    if list_any is_events_line before
    then (if list_any is_end_line before then Trailing else kind_among_events v l)
    else Header

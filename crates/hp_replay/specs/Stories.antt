-- A journal that the code holds, and the texts of it. This project's own.
use Rattle.std.specs.Prelude.{◌≤◌, ℕ, List, [], length}
use Rattle.hp_states.specs.declared.limits.TheConstants.{MAX_JOURNAL_BYTES}
use Rattle.hp_event.specs.declared.event.Event.{Event}
use Rattle.hp_event.specs.declared.head.Head.{Head}
use Rattle.hp_event.specs.Story.{Story}
use Rattle.hp_model.specs.Lawful.{IsLawful}
use Rattle.hp_model.specs.Summary.{summary}
use Rattle.hp_event.specs.declared.version.Version.{Version}
use Rattle.hp_event.specs.declared.version.Version.TheVariants.{Two}
use Rattle.hp_replay.specs.declared.error.ReplayError.{ReplayError}
use Rattle.hp_replay.specs.InputLines.{lines_of}
use Rattle.hp_replay.specs.Judged.{accepted, Judged}
use Rattle.hp_replay.specs.LinesLeft.{LinesLeft}
use Rattle.hp_replay.specs.Reading.{GoesOver, RefusedFrom}
use Rattle.hp_replay.specs.Stages.{Stage, among_events, whole, among_summary}
use Rattle.hp_replay.specs.Verdict.{IsTextOrBoth, IsReplay}

abbrev pub IsLawfulStory : Story → Type 0
IsLawfulStory story = IsLawful story.head story.events

-- an input that isn't too long
abbrev pub IsShort : (bytes : List ℕ) → Type 0
IsShort bytes = length bytes ≤ MAX_JOURNAL_BYTES

-- the bytes are its text in version 2, or that text and its summary
abbrev pub IsItsText : (bytes : List ℕ) → Story → Type 0
IsItsText bytes story = IsTextOrBoth Two bytes story.head story.events

-- the reader of a version answers it to these bytes
abbrev pub IsAccepted : Version → (bytes : List ℕ) → Story → Type 0
IsAccepted v bytes story = IsReplay v bytes (accepted story.head story.events)

abbrev pub summary_of : Story → List ℕ
summary_of story = summary story.head story.events

-- ---- on the way to it

-- behind its `end` line
abbrev pub text_stage : Story → Stage
text_stage story = whole story.head story.events

-- from the line `events` on, over the lines of its events and the `end` line
abbrev pub ReadsEvents : Version → (before : LinesLeft) → Head → (after : LinesLeft) → Story → Type 0
ReadsEvents v before head after story = GoesOver v before (among_events head []) after (text_stage story)

-- the lines that are left are none, or its summary
abbrev pub AcceptsRest : Version → LinesLeft → Story → Type 0
AcceptsRest v left story = Judged v (text_stage story) left.number left.lines (accepted story.head story.events)

-- The lines that are left are those of a text, or aren't. So they are accepted or refused behind the text of any journal
-- with that summary.
abbrev pub AcceptsAsSummary : Version → (text : List ℕ) → LinesLeft → Type 0
AcceptsAsSummary v text left =
    (head : Head) (events : List Event) →
    Judged v (among_summary head events (lines_of text)) left.number left.lines (accepted head events)

abbrev pub RefusesAsSummary : Version → (text : List ℕ) → LinesLeft → ReplayError → Type 0
RefusesAsSummary v text left error =
    (head : Head) (events : List Event) → RefusedFrom v (among_summary head events (lines_of text)) left error

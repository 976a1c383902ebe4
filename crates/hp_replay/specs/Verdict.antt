-- What the reader of a journal in a version answers to an input, in the words of its grammar: a lawful journal, where the bytes are
-- its text, or its text and its summary; else the first line that can't stand, counted from 1, and its kind; where
-- all lines can stand and the input ends too early, the line after the last. This project's own.
use Rattle.std.specs.Prelude.{◌≡◌, ◌↔◌, ◌⊎◌, ℕ, ◌+◌, ◌<◌, ◌≤◌, List, [], ◌∷◌, ◌++◌, length}
use Rattle.hp_states.specs.declared.limits.TheConstants.{MAX_JOURNAL_BYTES}
use Rattle.hp_event.specs.declared.head.Head.{Head}
use Rattle.hp_event.specs.declared.event.Event.{Event}
use Rattle.hp_event.specs.declared.version.Version.{Version}
use Rattle.hp_model.specs.JournalText.{journal_text}
use Rattle.hp_model.specs.Summary.{summary}
use Rattle.hp_replay.specs.declared.error.ReplayKind.{ReplayKind}
use Rattle.hp_replay.specs.declared.error.ReplayKind.TheVariants.{TooLong, Missing}
use Rattle.hp_replay.specs.declared.error.ReplayError.{ReplayError}
use Rattle.hp_replay.specs.declared.error.ReplayError.TheVariants.{Bad, NoMemory}
use Rattle.hp_replay.specs.InputLines.{lines_of}
use Rattle.hp_replay.specs.CanStand.{IsJournal, CanStand}
use Rattle.hp_replay.specs.Kinds.{kind_of}
use Rattle.hp_replay.specs.Judged.{Outcome, accepted, refused}

-- the bytes are the text of this journal, or its text and its summary
abbrev pub IsTextOrBoth : Version → (bytes : List ℕ) → Head → List Event → Type 0
IsTextOrBoth v bytes head events = (bytes ≡ journal_text v head events) ⊎ (bytes ≡ journal_text v head events ++ summary head events)

-- and the journal is a lawful one that the version has
pub record IsTextOf (v : Version) (bytes : List ℕ) (head : Head) (events : List Event) : Type 0 where
  pub journal : IsJournal v head events
  pub bytes_are : IsTextOrBoth v bytes head events

-- and they aren't too long
abbrev pub IsShortTextOf : Version → (bytes : List ℕ) → Head → List Event → Type 0
IsShortTextOf v bytes head events = (length bytes ≤ MAX_JOURNAL_BYTES) × IsTextOf v bytes head events

-- two lawful journals with the same text are one
abbrev pub AreOneByText : Version → (one : Head) (events : List Event) (other : Head) (others : List Event) → Type 0
AreOneByText v one events other others =
    IsJournal v one events → IsJournal v other others → journal_text v one events ≡ journal_text v other others →
    (one ≡ other) × (events ≡ others)

-- the lines before this one can stand, and with it they can't
pub record IsFirstBad (v : Version) (lines : List (List ℕ)) (number : ℕ) (kind : ReplayKind) : Type 0 where
  pub before : List (List ℕ)
  pub line : List ℕ
  pub others : List (List ℕ)
  pub lines_are : lines ≡ before ++ line ∷ others
  pub number_is : number ≡ length before + 1
  pub stood : CanStand v before
  pub cannot : CanStand v (before ++ line ∷ []) → ⊥
  pub kind_is : kind ≡ kind_of v before line

-- all lines can stand, and they are no whole text
pub record IsCutOff (v : Version) (bytes : List ℕ) (number : ℕ) (kind : ReplayKind) : Type 0 where
  pub number_is : number ≡ length (lines_of bytes) + 1
  pub kind_is : kind ≡ Missing
  pub stood : CanStand v (lines_of bytes)
  pub no_text : (head : Head) (events : List Event) → IsTextOf v bytes head events → ⊥

-- for an input that isn't too long
abbrev pub IsVerdict : Version → (bytes : List ℕ) → Outcome → Type 0
IsVerdict v bytes (accepted head events) = IsTextOf v bytes head events
IsVerdict v bytes (refused n kind) = IsFirstBad v (lines_of bytes) n kind ⊎ IsCutOff v bytes n kind

-- for any input
abbrev pub IsReplay : Version → (bytes : List ℕ) → Outcome → Type 0
IsReplay v bytes o =
    ((MAX_JOURNAL_BYTES < length bytes) × (o ≡ refused 0 TooLong))
    ⊎ ((length bytes ≤ MAX_JOURNAL_BYTES) × IsVerdict v bytes o)

-- the journals that are answered to an input are those whose text it is, where it isn't too long
abbrev pub AcceptsTexts : Version → (bytes : List ℕ) → Type 0
AcceptsTexts v bytes = (head : Head) (events : List Event) → IsReplay v bytes (accepted head events) ↔ IsShortTextOf v bytes head events

-- of an input that is too long that is answered, and nothing else
abbrev pub RefusesIfLong : Version → (bytes : List ℕ) → Outcome → Type 0
RefusesIfLong v bytes o = MAX_JOURNAL_BYTES < length bytes → IsReplay v bytes o ↔ (o ≡ refused 0 TooLong)

-- of an error: it is the verdict on the input, but where memory was wanting
abbrev pub IsRefusal : Version → (bytes : List ℕ) → ReplayError → Type 0
IsRefusal v bytes (Bad n kind) = IsReplay v bytes (refused n kind)
IsRefusal v bytes NoMemory = Unit {0}

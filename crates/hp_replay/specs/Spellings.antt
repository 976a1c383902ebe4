-- How lines are spelled: the lines round the events, and the line of an event. This project's own.
use Rattle.std.specs.Prelude.{◌≡◌, ℕ, ◌≤◌, ◌<◌, false, Some, List, [], ◌∷◌, map, codes, decimal, All}
use Rattle.std.specs.List.Sorted.{IsStrictlyIncreasing}
use Rattle.hp_states.specs.declared.limits.TheConstants.{MAX_CPUS}
use Rattle.hp_states.specs.declared.plan.Rule.{Rule}
use Rattle.hp_event.specs.declared.event.Event.{Event}
use Rattle.hp_event.specs.declared.head.Head.{Head}
use Rattle.hp_event.specs.declared.head.Sub.{Sub}
use Rattle.hp_event.specs.declared.version.Version.{Version}
use Rattle.hp_model.specs.EventLine.{event_line}
use Rattle.hp_replay.specs.declared.event.NumberedEvent.{NumberedEvent}
use Rattle.hp_model.specs.Heads.{IsName, IsRule}
use Rattle.hp_model.specs.JournalText.{rule_line}
use Rattle.hp_model.specs.Lists.{among}
use Rattle.hp_model.specs.Words.{line, list_words, name_word, calls_word, kind_word}
use Rattle.hp_replay.specs.Fits.{IsU32, EventFits}
use Rattle.hp_replay.specs.Spelled.{IsSpelled}
use Rattle.hp_replay.specs.HeadLines.{HeadLine, absent_at, head_line_at}
use Rattle.hp_replay.specs.Versions.{most_cpus, named_number}

-- ---- events

-- this, where the text can say the event and its numbers are within their fields' types
abbrev pub IfSaid : Event → Type 0 → Type 0
IfSaid event Holds = EventFits event → IsSpelled event → Holds

-- the bytes are the line of an event that the text can say, with some number of its operation
pub record IsEventLine (v : Version) (bytes : List ℕ) (said : NumberedEvent) : Type 0 where
  pub number : ℕ
  pub number_fits : IsU32 number
  pub named : said.number ≡ named_number v number said.event
  pub bytes_are : bytes ≡ event_line v number said.event
  pub fits : EventFits said.event
  pub spelled : IsSpelled said.event

-- with some numbers of their operations
pub record HaveSameLine (v : Version) (one other : Event) : Type 0 where
  pub first : ℕ
  pub second : ℕ
  pub first_fits : IsU32 first
  pub second_fits : IsU32 second
  pub same : event_line v first one ≡ event_line v second other

-- ---- the lines round the events

-- so many processors, as many as the version may have
abbrev pub IsCpusLine : Version → (bytes : List ℕ) → (possible : ℕ) → Type 0
IsCpusLine v bytes n = (1 ≤ n) × (n ≤ most_cpus v) × (bytes ≡ line (codes "cpus" ∷ decimal n ∷ []))

abbrev pub absent_text : (absent : List ℕ) → List ℕ
absent_text absent = line (codes "absent" ∷ list_words (map decimal absent))

-- processors that may be absent: they rise, from 1 to the last possible one
abbrev pub IsAbsentLine : (possible : ℕ) → (bytes : List ℕ) → (absent : List ℕ) → Type 0
IsAbsentLine possible bytes absent =
    IsStrictlyIncreasing absent × All (λ c. c < possible) absent × (among 0 absent ≡ false) × (bytes ≡ absent_text absent)

-- where the line says that these are absent, it is spelled so
abbrev pub SpellsAbsent : (possible : ℕ) → (bytes : List ℕ) → (absent : List ℕ) → Type 0
SpellsAbsent possible bytes absent =
    possible ≤ MAX_CPUS → absent_at possible bytes ≡ Some absent → IsAbsentLine possible bytes absent

-- the line says the absent processors of this head
abbrev pub SaysAbsent : Head → (bytes : List ℕ) → Type 0
SaysAbsent head bytes = absent_at head.possible bytes ≡ Some head.absent

-- the line says this, among those of the head
abbrev pub SaysInHead : (bytes : List ℕ) → HeadLine → Type 0
SaysInHead bytes said = head_line_at bytes ≡ Some said

-- a subsystem, as yet without rules
abbrev pub IsSubLine : (bytes : List ℕ) → Sub → Type 0
IsSubLine bytes sub =
    IsName sub.name
    × (sub.plan ≡ [])
    × (bytes ≡ line (codes "sub" ∷ name_word sub.name ∷ calls_word sub.up sub.down ∷ kind_word sub.multi ∷ []))

abbrev pub IsRuleLine : (bytes : List ℕ) → Rule → Type 0
IsRuleLine bytes rule = IsRule rule × (bytes ≡ rule_line rule)

-- so many events
abbrev pub end_text : (count : ℕ) → List ℕ
end_text count = line (codes "end" ∷ decimal count ∷ [])

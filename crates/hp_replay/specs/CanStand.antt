-- Which lines can stand in a version: the lines up to one begin the text, or the text with its summary, of some lawful
-- journal that the version has a text of.
-- This project's own.
use Rattle.std.specs.Prelude.{◌≡◌, ℕ, List, ◌++◌, All}
use Rattle.hp_event.specs.declared.head.Head.{Head}
use Rattle.hp_event.specs.declared.event.Event.{Event}
use Rattle.hp_model.specs.Lawful.{IsLawful}
use Rattle.hp_event.specs.declared.version.Version.{Version}
use Rattle.hp_model.specs.JournalText.{journal_text}
use Rattle.hp_model.specs.Summary.{summary}
use Rattle.hp_replay.specs.Fits.{EventFits}
use Rattle.hp_replay.specs.InputLines.{lines_of}
use Rattle.hp_replay.specs.Versions.{IsWithin}

-- a lawful journal, whose numbers are within their fields' types, and which isn't larger than those of the version
pub record IsJournal (v : Version) (head : Head) (events : List Event) : Type 0 where
  pub lawful : IsLawful head events
  pub fit : All EventFits events
  pub within : IsWithin v head events

pub record CanStand (v : Version) (front : List (List ℕ)) : Type 0 where
  pub head : Head
  pub events : List Event
  pub journal : IsJournal v head events
  pub rest : List (List ℕ)
  pub is_front : front ++ rest ≡ lines_of (journal_text v head events ++ summary head events)

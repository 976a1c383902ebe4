-- What the program answers: a status, and what it writes. This project's own.
use Rattle.std.specs.Prelude.{◌≡◌, ℕ, ◌<◌, Option, Some, List, [], ◌∷◌, ◌++◌, take, length, codes}
use Rattle.std.specs.Io.KnownBytes.{append_known}
use Rattle.hp_states.specs.declared.limits.TheConstants.{MAX_JOURNAL_BYTES}
use Rattle.hp_event.specs.declared.event.Event.{Event}
use Rattle.hp_event.specs.declared.head.Head.{Head}
use Rattle.hp_edge.specs.Reading.{WasRead}
use Rattle.hp_edge.specs.Refusals.{journal_error_line}
use Rattle.hp_event.specs.declared.version.Version.TheVariants.{Two}
use Rattle.hp_replay.specs.declared.error.ReplayError.TheVariants.{Bad}
use Rattle.hp_replay.specs.declared.error.ReplayKind.{ReplayKind}
use Rattle.hp_replay.specs.Judged.{accepted, refused}
use Rattle.hp_replay.specs.Verdict.{IsReplay}
use Rattle.hp_timeline.specs.declared.window.Window.{Window}
use Rattle.hp_timeline.specs.Picture.{picture}
use Rattle.hp_view.specs.declared.asked.Asked.{Asked}
use Rattle.hp_view.specs.Options.{IsAsked}
use Rattle.hp_view.specs.Chosen.{IsChosen, HasNone, window_error_line}

abbrev pub usage_line : List ℕ
usage_line = codes "usage: hpview [--from N] [--to M]" ++ 10 ∷ []

-- the source holds the text of a lawful journal, with or without its summary, and the picture of its window is written
pub record IsShown (asked : Asked) (left now : Option (List ℕ)) (written : List ℕ) : Type 0 where
  pub bytes : List ℕ
  pub read : WasRead MAX_JOURNAL_BYTES left now bytes
  pub head : Head
  pub events : List Event
  pub is_text : IsReplay Two bytes (accepted head events)
  pub window : Window
  pub chosen : IsChosen asked (length events) window
  pub written_is : written ≡ picture head events window

-- the source holds a journal of which there is no such window
pub record IsBadWindow (asked : Asked) (left now : Option (List ℕ)) (written : List ℕ) : Type 0 where
  pub bytes : List ℕ
  pub read : WasRead MAX_JOURNAL_BYTES left now bytes
  pub head : Head
  pub events : List Event
  pub is_text : IsReplay Two bytes (accepted head events)
  pub none : HasNone asked (length events)
  pub written_is : written ≡ window_error_line (length events)

-- the source holds no journal: this line is the first that can't stand, for this cause
pub record IsBadJournal (left now : Option (List ℕ)) (written : List ℕ) : Type 0 where
  pub bytes : List ℕ
  pub read : WasRead MAX_JOURNAL_BYTES left now bytes
  pub line : ℕ
  pub kind : ReplayKind
  pub refused_is : IsReplay Two bytes (refused line kind)
  pub written_is : written ≡ journal_error_line (Bad line kind)

-- the source holds a journal that has the window
pub record HoldsWindow (asked : Asked) (left : Option (List ℕ)) : Type 0 where
  pub bytes : List ℕ
  pub head : Head
  pub events : List Event
  pub held : left ≡ Some bytes
  pub is_text : IsReplay Two bytes (accepted head events)
  pub window : Window
  pub chosen : IsChosen asked (length events) window

-- what the words ask for, and what is so of it
pub record Asks (words : List (List ℕ)) (Is : Asked → Type 0) : Type 0 where
  pub asked : Asked
  pub is_asked : IsAsked words asked
  pub is : Is asked

-- the usage line answers any other words, and then nothing is read
pub record IsUsage (words : List (List ℕ)) (left now : Option (List ℕ)) (bytes : List ℕ) : Type 0 where
  pub other_words : (asked : Asked) → IsAsked words asked → ⊥
  pub unread : now ≡ left
  pub line : bytes ≡ usage_line

pub data Answer : Type 0 where
  done : Answer
  usage : Answer
  bad_window : Answer
  bad_journal : Answer

-- what is to be written, where no write fails
abbrev pub IsAnswer : Answer → (words : List (List ℕ)) → (left now : Option (List ℕ)) (bytes : List ℕ) → Type 0
IsAnswer done words left now bytes = Asks words (λ asked. IsShown asked left now bytes)
IsAnswer usage words left now bytes = IsUsage words left now bytes
IsAnswer bad_window words left now bytes = Asks words (λ asked. IsBadWindow asked left now bytes)
IsAnswer bad_journal words left now bytes = Asks words (λ asked. IsBadJournal left now bytes)

-- the answer is what the sink took
pub record Writes (answer : Answer) (words : List (List ℕ)) (left now taken taken_now : Option (List ℕ)) : Type 0 where
  pub bytes : List ℕ
  pub is_answer : IsAnswer answer words left now bytes
  pub all : taken_now ≡ append_known taken bytes

-- the first bytes of some answer are what the sink took, and not all of them
pub record WritesPart (words : List (List ℕ)) (left now taken taken_now : Option (List ℕ)) : Type 0 where
  pub answer : Answer
  pub bytes : List ℕ
  pub is_answer : IsAnswer answer words left now bytes
  pub count : ℕ
  pub not_all : count < length bytes
  pub part : taken_now ≡ append_known taken (take count bytes)

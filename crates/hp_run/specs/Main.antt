-- What the program answers: a status, and what it writes. This project's own.
use Rattle.std.specs.Prelude.{◌≡◌, ℕ, ◌<◌, Option, List, ◌++◌, take, length}
use Rattle.std.specs.Io.KnownBytes.{append_known}
use Rattle.hp_edge.specs.Scripts.{HasReadScript, IsBadScript}
use Rattle.hp_event.specs.declared.event.Event.{Event}
use Rattle.hp_event.specs.declared.head.Head.{Head}
use Rattle.hp_model.specs.JournalText.{journal_text}
use Rattle.hp_event.specs.declared.version.Version.TheVariants.{Two}
use Rattle.hp_model.specs.Summary.{summary}
use Rattle.hp_script.specs.Script.{Contents}
use Rattle.hp_threads.specs.Journals.{IsJournalOf}
use Rattle.hp_run.specs.declared.command.Command.{Command}
use Rattle.hp_run.specs.declared.command.Command.TheVariants.{Run, Work}
use Rattle.hp_run.specs.Commands.{usage_line, AskFor, AskForSome, AskForNothing}
use Rattle.hp_run.specs.WorkLines.{work_lines}

-- what is written under a command of a journal: its text and its summary, and of queues that went through it the lines of what they hold
abbrev pub text_under : Command → Head → List Event → List ℕ
text_under Run head events = journal_text Two head events ++ summary head events
text_under (Work s) head events = (journal_text Two head events ++ summary head events) ++ work_lines s events

-- what is written under a command of a script: there is one journal of a run of it, of which this is written
pub record WasDone (command : Command) (script : Contents) (written : List ℕ) : Type 0 where
  pub events : List Event
  pub journal : IsJournalOf script events
  pub written_is : written ≡ text_under command script.head events

-- it was done with the script that the source holds
pub record IsScriptDone (command : Command) (hooks : ℕ) (left now : Option (List ℕ)) (written : List ℕ) : Type 0 where
  pub script : Contents
  pub read : HasReadScript hooks left now script
  pub done : WasDone command script written

-- the words ask for a command, and it was done
pub record IsDone (words : List (List ℕ)) (hooks : ℕ) (left now : Option (List ℕ)) (written : List ℕ) : Type 0 where
  pub command : Command
  pub asked : AskFor command words
  pub done : IsScriptDone command hooks left now written

-- the usage line answers any other words, and then nothing is read
pub record IsUsage (words : List (List ℕ)) (left now : Option (List ℕ)) (bytes : List ℕ) : Type 0 where
  pub other_words : AskForNothing words
  pub unread : now ≡ left
  pub line : bytes ≡ usage_line

pub data Answer : Type 0 where
  done : Answer
  usage : Answer
  refusal : Answer

-- what is to be written, where no write fails
abbrev pub IsAnswer : Answer → (words : List (List ℕ)) (hooks : ℕ) (left now : Option (List ℕ)) (bytes : List ℕ) → Type 0
IsAnswer done words hooks left now bytes = IsDone words hooks left now bytes
IsAnswer usage words hooks left now bytes = IsUsage words left now bytes
IsAnswer refusal words hooks left now bytes = AskForSome words × IsBadScript hooks left now bytes

-- the answer is what the sink took
pub record Writes (answer : Answer) (words : List (List ℕ)) (hooks : ℕ) (left now taken taken_now : Option (List ℕ)) : Type 0 where
  pub bytes : List ℕ
  pub is_answer : IsAnswer answer words hooks left now bytes
  pub all : taken_now ≡ append_known taken bytes

-- the first bytes of some answer are what the sink took, and not all of them
pub record WritesPart (words : List (List ℕ)) (hooks : ℕ) (left now taken taken_now : Option (List ℕ)) : Type 0 where
  pub answer : Answer
  pub bytes : List ℕ
  pub is_answer : IsAnswer answer words hooks left now bytes
  pub count : ℕ
  pub not_all : count < length bytes
  pub part : taken_now ≡ append_known taken (take count bytes)

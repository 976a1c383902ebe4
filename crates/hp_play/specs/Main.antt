-- What the program answers: a status, and what it writes. This project's own.
use Rattle.std.specs.Prelude.{◌≡◌, ℕ, ◌<◌, ◌≤◌, Option, Some, List, [], ◌∷◌, ◌++◌, take, length, codes}
use Rattle.std.specs.Io.KnownBytes.{append_known}
use Rattle.hp_states.specs.declared.limits.TheConstants.{MAX_SCRIPT_BYTES, MAX_JOURNAL_BYTES}
use Rattle.hp_event.specs.declared.event.Event.{Event}
use Rattle.hp_event.specs.declared.head.Head.{Head}
use Rattle.hp_command.specs.declared.command.Command.{Command}
use Rattle.hp_command.specs.declared.controlling.Controlling.{Controlling}
use Rattle.hp_command.specs.declared.command.Command.TheVariants as asks
use Rattle.hp_command.specs.Commands.{IsCommand}
use Rattle.hp_edge.specs.Reading.{WasRead}
use Rattle.hp_edge.specs.Refusals.{script_error_line, journal_error_line}
use Rattle.hp_edge.specs.Scripts.{counted_hooks, HoldsScript, HasReadScript, IsBadScript}
use Rattle.hp_model.specs.Summary.{summary}
use Rattle.hp_event.specs.declared.version.Version.{Version}
use Rattle.hp_event.specs.declared.version.Version.TheVariants.{One, Two}
use Rattle.hp_model.specs.JournalText.{journal_text}
use Rattle.hp_replay.specs.declared.error.ReplayError.TheVariants.{Bad as BadJournal}
use Rattle.hp_replay.specs.declared.error.ReplayKind.{ReplayKind}
use Rattle.hp_replay.specs.Judged.{accepted, refused}
use Rattle.hp_replay.specs.Verdict.{IsReplay}
use Rattle.hp_script.specs.declared.error.ParseError.TheVariants.{Bad as BadScript}
use Rattle.hp_script.specs.declared.error.ScriptKind.{ScriptKind}
use Rattle.hp_script.specs.Generated.{generated}
use Rattle.hp_script.specs.Judged.{IsRefused}
use Rattle.hp_script.specs.Script.{Contents}
use Rattle.hp_play.specs.declared.output.Output.{Output}
use Rattle.hp_play.specs.declared.output.Output.TheVariants as writes
use Rattle.hp_play.specs.Controlled.{WasControlled}
use Rattle.hp_play.specs.Played.{IsPlayed}
use Rattle.hp_play.specs.Racks.{Racks, Stays}

abbrev pub usage_line : List ℕ
usage_line =
    codes "usage: hp play|replay|states|report|gen|bench|migrate|smt|count [--seed N] [--size N] [T MODE] [STATE BATCH]" ++ 10 ∷ []

-- ---- what is done

-- the script that the source holds was played
pub record IsScriptPlayed {H : Type 0} (of : Output) (rack : Racks H) (left now : Option (List ℕ)) (written : List ℕ) : Type 0
  where
    pub bytes : List ℕ
    pub read : WasRead MAX_SCRIPT_BYTES left now bytes
    pub played : IsPlayed of rack bytes written

-- so it was under SMT control
pub record IsScriptControlled {H : Type 0} (c : Controlling) (rack : Racks H) (left now : Option (List ℕ)) (written : List ℕ) : Type 0
  where
    pub script : Contents
    pub read : HasReadScript (length rack.old) left now script
    pub played : WasControlled c script rack written

-- the source holds the text of a lawful journal in version 2, with or without its summary, which is written
pub record IsReplayed (left now : Option (List ℕ)) (written : List ℕ) : Type 0 where
  pub bytes : List ℕ
  pub read : WasRead MAX_JOURNAL_BYTES left now bytes
  pub head : Head
  pub events : List Event
  pub is_text : IsReplay Two bytes (accepted head events)
  pub written_is : written ≡ summary head events

-- it holds such a text in version 1; the journal's text in version 2 is written, and the summary
pub record IsMigrated (left now : Option (List ℕ)) (written : List ℕ) : Type 0 where
  pub bytes : List ℕ
  pub read : WasRead MAX_JOURNAL_BYTES left now bytes
  pub head : Head
  pub events : List Event
  pub is_text : IsReplay One bytes (accepted head events)
  pub written_is : written ≡ journal_text Two head events ++ summary head events

-- nothing was read, and a script was generated and played
pub record IsBenchPlayed {H : Type 0} (seed size : ℕ) (rack : Racks H) (left now : Option (List ℕ)) (written : List ℕ) : Type 0 where
  pub unread : now ≡ left
  pub played : IsPlayed writes.Summary rack (generated seed size) written

abbrev pub IsDoneBy : {H : Type 0} → Command → Racks H → (left now : Option (List ℕ)) (written : List ℕ) → Type 0
IsDoneBy asks.Play rack left now written = IsScriptPlayed writes.Journal rack left now written
IsDoneBy asks.States rack left now written = IsScriptPlayed writes.States rack left now written
IsDoneBy asks.Report rack left now written = IsScriptPlayed writes.Report rack left now written
IsDoneBy asks.Replay rack left now written = IsReplayed left now written
IsDoneBy asks.Migrate rack left now written = IsMigrated left now written
IsDoneBy (asks.Gen options) rack left now written = (now ≡ left) × (written ≡ generated options.seed options.size)
IsDoneBy (asks.Bench options) rack left now written = IsBenchPlayed options.seed options.size rack left now written
IsDoneBy (asks.Count counting) rack left now written = IsScriptPlayed (writes.Count counting) rack left now written
IsDoneBy (asks.Smt controlling) rack left now written = IsScriptControlled controlling rack left now written

-- a command that plays no script
abbrev pub PlaysNothing : Command → Type 0
PlaysNothing asks.Replay = Unit {0}
PlaysNothing asks.Migrate = Unit {0}
PlaysNothing (asks.Gen options) = Unit {0}
PlaysNothing _ = ⊥

-- ---- what is accepted

-- the source holds the text of a lawful journal in a version, with or without its summary
pub record HoldsJournal (v : Version) (left : Option (List ℕ)) : Type 0 where
  pub bytes : List ℕ
  pub head : Head
  pub events : List Event
  pub held : left ≡ Some bytes
  pub is_text : IsReplay v bytes (accepted head events)

-- what a command needs: the input that it reads, or of `bench` the hooks for the twelve setups of a generated script
abbrev pub HasInput : Command → (hooks : ℕ) (left : Option (List ℕ)) → Type 0
HasInput asks.Play hooks left = HoldsScript hooks left
HasInput asks.States hooks left = HoldsScript hooks left
HasInput asks.Report hooks left = HoldsScript hooks left
HasInput asks.Replay hooks left = HoldsJournal Two left
HasInput asks.Migrate hooks left = HoldsJournal One left
HasInput (asks.Gen options) hooks left = Unit {0}
HasInput (asks.Bench options) hooks left = 12 ≤ hooks
HasInput (asks.Count counting) hooks left = HoldsScript hooks left
HasInput (asks.Smt controlling) hooks left = HoldsScript hooks left

-- ---- what is refused

-- the rack has too few hooks for the setups of a generated script
pub record IsBadBench (seed size hooks : ℕ) (left now : Option (List ℕ)) (written : List ℕ) : Type 0 where
  pub unread : now ≡ left
  pub line : ℕ
  pub kind : ScriptKind
  pub refused : IsRefused (counted_hooks hooks) (generated seed size) line kind
  pub few_hooks : hooks < 12
  pub written_is : written ≡ script_error_line (BadScript line kind)

abbrev pub IsRefusedBy : Command → (hooks : ℕ) (left now : Option (List ℕ)) (written : List ℕ) → Type 0
IsRefusedBy asks.Play hooks left now written = IsBadScript hooks left now written
IsRefusedBy asks.States hooks left now written = IsBadScript hooks left now written
IsRefusedBy asks.Report hooks left now written = IsBadScript hooks left now written
IsRefusedBy (asks.Bench options) hooks left now written = IsBadBench options.seed options.size hooks left now written
IsRefusedBy (asks.Count counting) hooks left now written = IsBadScript hooks left now written
IsRefusedBy (asks.Smt controlling) hooks left now written = IsBadScript hooks left now written
IsRefusedBy _ hooks left now written = ⊥

-- the source holds no journal in a version: this line is the first that can't stand, for this cause
pub record IsBadJournal (v : Version) (left now : Option (List ℕ)) (written : List ℕ) : Type 0 where
  pub bytes : List ℕ
  pub read : WasRead MAX_JOURNAL_BYTES left now bytes
  pub line : ℕ
  pub kind : ReplayKind
  pub refused_is : IsReplay v bytes (refused line kind)
  pub written_is : written ≡ journal_error_line (BadJournal line kind)

-- of a command that reads one
abbrev pub IsBadJournalOf : Command → (left now : Option (List ℕ)) (written : List ℕ) → Type 0
IsBadJournalOf asks.Replay left now written = IsBadJournal Two left now written
IsBadJournalOf asks.Migrate left now written = IsBadJournal One left now written
IsBadJournalOf _ left now written = ⊥

-- ---- what is answered

pub data Answer : Type 0 where
  done : Answer
  usage : Answer
  refusal : Answer
  bad_journal : Answer

-- what the words ask for, and what is so of what comes of it
pub record Asked (words : List (List ℕ)) (Is : Command → Type 0) : Type 0 where
  pub command : Command
  pub asked : IsCommand words command
  pub is : Is command

-- The usage line answers any other words, and then nothing is read.
pub record IsUsage (words : List (List ℕ)) (left now : Option (List ℕ)) (bytes : List ℕ) : Type 0 where
  pub other_words : (command : Command) → IsCommand words command → ⊥
  pub unread : now ≡ left
  pub line : bytes ≡ usage_line

-- What is to be written, where no write fails, and the rack then: an answer that isn't of a command that was done leaves it as it was.
abbrev pub IsAnswer : {H : Type 0} → Answer → (words : List (List ℕ)) → Racks H → (left now : Option (List ℕ)) (bytes : List ℕ) → Type 0
IsAnswer done words rack left now bytes = Asked words (λ command. IsDoneBy command rack left now bytes)
IsAnswer usage words rack left now bytes = IsUsage words left now bytes × Stays rack
IsAnswer refusal words rack left now bytes = Asked words (λ command. IsRefusedBy command (length rack.old) left now bytes) × Stays rack
IsAnswer bad_journal words rack left now bytes = Asked words (λ command. IsBadJournalOf command left now bytes) × Stays rack

-- the answer is what the sink took
pub record Writes {H : Type 0} (answer : Answer) (words : List (List ℕ)) (rack : Racks H) (left now taken taken_now : Option (List ℕ)) : Type 0
  where
    pub bytes : List ℕ
    pub is_answer : IsAnswer answer words rack left now bytes
    pub all : taken_now ≡ append_known taken bytes

-- the first bytes of some answer are what the sink took, and not all of them
pub record WritesPart {H : Type 0} (words : List (List ℕ)) (rack : Racks H) (left now taken taken_now : Option (List ℕ)) : Type 0 where
  pub answer : Answer
  pub bytes : List ℕ
  pub is_answer : IsAnswer answer words rack left now bytes
  pub count : ℕ
  pub not_all : count < length bytes
  pub part : taken_now ≡ append_known taken (take count bytes)

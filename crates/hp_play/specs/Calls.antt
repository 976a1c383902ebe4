-- A call of the program: what it was handed, and what it left of it. This project's own.
use Rattle.std.specs.Prelude.{◌≡◌, ℕ, ◌+◌, ◌⊎◌, Option, List, Vec, String, length, map, string_bytes}
use Rattle.hp_io.specs.declared.source.Source as Source
use Rattle.hp_io.specs.declared.sink.Sink as Sink
use Rattle.hp_hook.specs.declared.hook.Hook as Hook
use Rattle.hp_hook.specs.declared.rack.Rack.{Rack}
use Rattle.hp_command.specs.Commands.{IsCommand, HasOptions}
use Rattle.hp_command.specs.declared.command.Command.{Command}
use Rattle.hp_command.specs.declared.controlling.Controlling.{Controlling}
use Rattle.hp_event.specs.declared.version.Version.{Version}
use Rattle.hp_edge.specs.declared.status.TheConstants.{DONE, NO_MEMORY}
use Rattle.hp_play.specs.declared.output.Output.{Output}
use Rattle.hp_play.specs.declared.stop.Stop.{Stop}
use Rattle.hp_play.specs.Main.{Answer, Asked, HasInput, IsDoneBy, IsScriptPlayed, IsScriptControlled, IsReplayed, IsMigrated, Writes, WritesPart}
use Rattle.hp_play.specs.Racks.{Racks, Stays, racks_of}
use Rattle.hp_play.specs.Stops.{Reads, Stops, StopsScript, StopsJournal}

-- ---- the whole program

-- what the words ask for is so
abbrev pub AskedIn : {Y Z : Type 0} → (words : Vec (String Y) Z) → (Is : Command → Type 0) → Type 0
AskedIn words Is = Asked (map string_bytes words.items) Is

-- the words; the rack, what is left of the source, and what the sink took, before and now; and their counts of faults
pub record Call (H : Type 0) : Type 0 where
  pub words : List (List ℕ)
  pub rack : Racks H
  pub left : Option (List ℕ)
  pub left_now : Option (List ℕ)
  pub taken : Option (List ℕ)
  pub taken_now : Option (List ℕ)
  pub read_faults : ℕ
  pub read_faults_now : ℕ
  pub write_faults : ℕ
  pub write_faults_now : ℕ

abbrev pub call :
    {S K H Y Z : Type 0} → Source.Ghosts S → Sink.Ghosts K → Hook.Ghosts H → (words : Vec (String Y) Z) →
    (source source_now : S) → (sink sink_now : K) → (rack rack_now : Rack H) → Call H
call from to hook words source source_now sink sink_now rack rack_now = record {
  words = map string_bytes words.items;
  rack = racks_of hook rack rack_now;
  left = from.left source;
  left_now = from.left source_now;
  taken = to.taken sink;
  taken_now = to.taken sink_now;
  read_faults = from.faults source;
  read_faults_now = from.faults source_now;
  write_faults = to.faults sink;
  write_faults_now = to.faults sink_now;
}

-- what its words ask for has its input, so that it is done or memory is wanting, where no object fails
abbrev pub IsDoneIfFine : {H : Type 0} → Call H → (status : ℕ) → Type 0
IsDoneIfFine c status =
    Asked c.words (λ command. HasInput command (length c.rack.old) c.left) →
    c.read_faults_now ≡ c.read_faults → c.write_faults_now ≡ c.write_faults →
    (status ≡ DONE) ⊎ (status ≡ NO_MEMORY)

-- the sink took this answer to it
abbrev pub EndsWith : {H : Type 0} → Answer → Call H → Type 0
EndsWith answer c = Writes answer c.words c.rack c.left c.left_now c.taken c.taken_now

-- a read failed, and nothing was written
abbrev pub EndsUnread : {H : Type 0} → Call H → Type 0
EndsUnread c =
    Asked c.words Reads
    × (c.read_faults_now ≡ c.read_faults + 1)
    × (c.taken_now ≡ c.taken)
    × Stays c.rack

-- a write failed, and the sink took a part of some answer
abbrev pub EndsHalfWritten : {H : Type 0} → Call H → Type 0
EndsHalfWritten c =
    (c.write_faults_now ≡ c.write_faults + 1)
    × WritesPart c.words c.rack c.left c.left_now c.taken c.taken_now

-- memory was wanting for a command, or for words that can be one with options, and nothing was written
abbrev pub EndsWanting : {H : Type 0} → Call H → Type 0
EndsWanting c =
    (((command : Command) × IsCommand c.words command) ⊎ HasOptions c.words)
    × (c.taken_now ≡ c.taken)

-- ---- one command, by a source and a rack before and now

-- what is written of the command
abbrev pub Does :
    {S H Z : Type 0} → Command → Source.Ghosts S → Hook.Ghosts H → (source source_now : S) → (rack rack_now : Rack H) →
    (text : Vec ℕ Z) → Type 0
Does command from hook source source_now rack rack_now =
    λ text. IsDoneBy command (racks_of hook rack rack_now) (from.left source) (from.left source_now) text.items

-- what is written of the script that the source holds
abbrev pub Plays :
    {S H Z : Type 0} → Output → Source.Ghosts S → Hook.Ghosts H → (source source_now : S) → (rack rack_now : Rack H) →
    (text : Vec ℕ Z) → Type 0
Plays of from hook source source_now rack rack_now =
    λ text. IsScriptPlayed of (racks_of hook rack rack_now) (from.left source) (from.left source_now) text.items

-- what is written of it under SMT control
abbrev pub Controls :
    {S H Z : Type 0} → Controlling → Source.Ghosts S → Hook.Ghosts H → (source source_now : S) → (rack rack_now : Rack H) →
    (text : Vec ℕ Z) → Type 0
Controls controlling from hook source source_now rack rack_now =
    λ text. IsScriptControlled controlling (racks_of hook rack rack_now) (from.left source) (from.left source_now) text.items

-- what is written of the journal that the source holds
abbrev pub Replays : {S Z : Type 0} → Source.Ghosts S → (source source_now : S) → (text : Vec ℕ Z) → Type 0
Replays from source source_now = λ text. IsReplayed (from.left source) (from.left source_now) text.items

-- so of the journal that it holds in version 1
abbrev pub Migrates : {S Z : Type 0} → Source.Ghosts S → (source source_now : S) → (text : Vec ℕ Z) → Type 0
Migrates from source source_now = λ text. IsMigrated (from.left source) (from.left source_now) text.items

-- why nothing is: of any command, of one that plays a script, as it says or under SMT control, and of one that reads a journal in
-- a version
abbrev pub StopsAt :
    {S H : Type 0} → Command → Source.Ghosts S → (source source_now : S) → (rack : Rack H) → Stop → Type 0
StopsAt command from source source_now rack =
    Stops command (length rack.hooks.items) (from.left source) (from.left source_now) (from.faults source) (from.faults source_now)

abbrev pub StopsScriptAt : {S H : Type 0} → Source.Ghosts S → (source source_now : S) → (rack : Rack H) → Stop → Type 0
StopsScriptAt from source source_now rack =
    StopsScript (length rack.hooks.items) (from.left source) (from.left source_now) (from.faults source) (from.faults source_now)

abbrev pub StopsJournalAt : {S : Type 0} → Version → Source.Ghosts S → (source source_now : S) → Stop → Type 0
StopsJournalAt v from source source_now =
    StopsJournal v (from.left source) (from.left source_now) (from.faults source) (from.faults source_now)

-- A call of the program: what it was handed, and what it left of it. This project's own.
use Rattle.std.specs.Prelude.{◌≡◌, ℕ, ◌+◌, ◌⊎◌, Option, List, Vec, String, length, map, string_bytes}
use Rattle.hp_io.specs.declared.source.Source as Source
use Rattle.hp_io.specs.declared.sink.Sink as Sink
use Rattle.hp_hook.specs.declared.rack.Rack.{Rack}
use Rattle.hp_edge.specs.declared.status.TheConstants.{DONE, NO_MEMORY}
use Rattle.hp_edge.specs.Scripts.{HoldsScript}
use Rattle.hp_run.specs.declared.command.Command.{Command}
use Rattle.hp_run.specs.Commands.{AskForSome}
use Rattle.hp_run.specs.Main.{Answer, IsScriptDone, Writes, WritesPart}

-- the words; how many hooks the rack has; what is left of the source, and what the sink took, before and now; and
-- their counts of faults
pub record Call : Type 0 where
  pub words : List (List ℕ)
  pub hooks : ℕ
  pub left : Option (List ℕ)
  pub left_now : Option (List ℕ)
  pub taken : Option (List ℕ)
  pub taken_now : Option (List ℕ)
  pub read_faults : ℕ
  pub read_faults_now : ℕ
  pub write_faults : ℕ
  pub write_faults_now : ℕ

abbrev pub call :
    {S K H Y Z : Type 0} → Source.Ghosts S → Sink.Ghosts K → (words : Vec (String Y) Z) → (source source_now : S) →
    (sink sink_now : K) → (rack : Rack H) → Call
call from to words source source_now sink sink_now rack = record {
  words = map string_bytes words.items;
  hooks = length rack.hooks.items;
  left = from.left source;
  left_now = from.left source_now;
  taken = to.taken sink;
  taken_now = to.taken sink_now;
  read_faults = from.faults source;
  read_faults_now = from.faults source_now;
  write_faults = to.faults sink;
  write_faults_now = to.faults sink_now;
}

-- where the words ask for a command and the source holds a script, it is done, or memory is wanting, where no object fails
abbrev pub IsDoneIfFine : Call → (status : ℕ) → Type 0
IsDoneIfFine c status =
    AskForSome c.words → HoldsScript c.hooks c.left → c.read_faults_now ≡ c.read_faults →
    c.write_faults_now ≡ c.write_faults → (status ≡ DONE) ⊎ (status ≡ NO_MEMORY)

-- the sink took this answer to it
abbrev pub EndsWith : Answer → Call → Type 0
EndsWith answer c = Writes answer c.words c.hooks c.left c.left_now c.taken c.taken_now

-- a read failed, and nothing was written
abbrev pub EndsUnread : Call → Type 0
EndsUnread c = AskForSome c.words × (c.read_faults_now ≡ c.read_faults + 1) × (c.taken_now ≡ c.taken)

-- a write failed, and the sink took a part of some answer
abbrev pub EndsHalfWritten : Call → Type 0
EndsHalfWritten c =
    (c.write_faults_now ≡ c.write_faults + 1)
    × WritesPart c.words c.hooks c.left c.left_now c.taken c.taken_now

-- memory was wanting for a command, and nothing was written
abbrev pub EndsWanting : Call → Type 0
EndsWanting c = AskForSome c.words × (c.taken_now ≡ c.taken)

-- what is written under a command, of the script that the source holds
abbrev pub Does : {S H Z : Type 0} → Source.Ghosts S → (source source_now : S) → (rack : Rack H) → Command → (text : Vec ℕ Z) → Type 0
Does from source source_now rack command =
    λ text. IsScriptDone command (length rack.hooks.items) (from.left source) (from.left source_now) text.items

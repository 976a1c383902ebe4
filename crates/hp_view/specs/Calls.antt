-- A call of the program: what it was handed, and what it left of it. This project's own.
use Rattle.std.specs.Prelude.{◌≡◌, ℕ, ◌+◌, ◌⊎◌, Option, List, Vec, String, map, string_bytes}
use Rattle.hp_io.specs.declared.source.Source as Source
use Rattle.hp_io.specs.declared.sink.Sink as Sink
use Rattle.hp_edge.specs.declared.status.TheConstants.{DONE, NO_MEMORY}
use Rattle.hp_command.specs.Options.{CanBeOptions}
use Rattle.hp_view.specs.declared.asked.Asked.{Asked}
use Rattle.hp_view.specs.Options.{IsAsked}
use Rattle.hp_view.specs.Main.{Answer, Asks, HoldsWindow, Writes, WritesPart}

-- the words; what is left of the source, and what the sink took, before and now; and their counts of faults
pub record Call : Type 0 where
  pub words : List (List ℕ)
  pub left : Option (List ℕ)
  pub left_now : Option (List ℕ)
  pub taken : Option (List ℕ)
  pub taken_now : Option (List ℕ)
  pub read_faults : ℕ
  pub read_faults_now : ℕ
  pub write_faults : ℕ
  pub write_faults_now : ℕ

abbrev pub call :
    {S K Y Z : Type 0} → Source.Ghosts S → Sink.Ghosts K → (words : Vec (String Y) Z) → (source source_now : S) →
    (sink sink_now : K) → Call
call from to words source source_now sink sink_now = record {
  words = map string_bytes words.items;
  left = from.left source;
  left_now = from.left source_now;
  taken = to.taken sink;
  taken_now = to.taken sink_now;
  read_faults = from.faults source;
  read_faults_now = from.faults source_now;
  write_faults = to.faults sink;
  write_faults_now = to.faults sink_now;
}

-- where the source holds a journal with the window, it is shown, or memory is wanting, where no object fails
abbrev pub IsDoneIfFine : Call → (status : ℕ) → Type 0
IsDoneIfFine c status =
    Asks c.words (λ asked. HoldsWindow asked c.left) → c.read_faults_now ≡ c.read_faults →
    c.write_faults_now ≡ c.write_faults → (status ≡ DONE) ⊎ (status ≡ NO_MEMORY)

-- the sink took this answer to it
abbrev pub EndsWith : Answer → Call → Type 0
EndsWith answer c = Writes answer c.words c.left c.left_now c.taken c.taken_now

-- a read failed, and nothing was written
abbrev pub EndsUnread : Call → Type 0
EndsUnread c =
    ((asked : Asked) × IsAsked c.words asked) × (c.read_faults_now ≡ c.read_faults + 1) × (c.taken_now ≡ c.taken)

-- a write failed, and the sink took a part of some answer
abbrev pub EndsHalfWritten : Call → Type 0
EndsHalfWritten c =
    (c.write_faults_now ≡ c.write_faults + 1) × WritesPart c.words c.left c.left_now c.taken c.taken_now

-- memory was wanting for words that can be options, as all that ask for a window can, and nothing was written
abbrev pub EndsWanting : Call → Type 0
EndsWanting c = CanBeOptions c.words × (c.taken_now ≡ c.taken)

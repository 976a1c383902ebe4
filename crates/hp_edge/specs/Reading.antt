-- What was read of a source. This project's own.
use Rattle.std.specs.Prelude.{◌≡◌, ℕ, ◌+◌, ◌⊎◌, Option, List, length}
use Rattle.std.specs.Io.KnownBytes.{prepend_known, IsAtEnd}
use Rattle.hp_io.specs.declared.source.Source as Source
use Rattle.hp_io.specs.declared.source.ReadError.{ReadError}
use Rattle.hp_io.specs.declared.source.ReadError.TheVariants.{Failed, NoMemory}

-- the bytes were read: all that there were, or one past the limit
pub record WasRead (limit : ℕ) (left now : Option (List ℕ)) (bytes : List ℕ) : Type 0 where
  pub first : left ≡ prepend_known bytes now
  pub whole : IsAtEnd now ⊎ (length bytes ≡ limit + 1)

-- they were read of this source
abbrev pub Reads : {S : Type 0} → Source.Ghosts S → (limit : ℕ) → (old new : S) → (bytes : List ℕ) → Type 0
Reads source limit old new bytes = WasRead limit (source.left old) (source.left new) bytes

-- one fault more is counted where a read failed, and none where memory was wanting
abbrev pub CountsIfFailed : {S : Type 0} → Source.Ghosts S → (old new : S) → ReadError → Type 0
CountsIfFailed source old new error = error ≡ Failed → source.faults new ≡ source.faults old + 1

abbrev pub KeepsIfNoMemory : {S : Type 0} → Source.Ghosts S → (old new : S) → ReadError → Type 0
KeepsIfNoMemory source old new error = error ≡ NoMemory → source.faults new ≡ source.faults old

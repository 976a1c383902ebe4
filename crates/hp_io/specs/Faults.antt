-- What a call does to the count of faults of a source or a sink: this project's own.
use Rattle.std.specs.Prelude.{◌≡◌, ℕ, ◌+◌, List, Result, MatchResult, codes}
use Rattle.hp_io.specs.declared.source.ReadError.{ReadError}
use Rattle.hp_io.specs.declared.source.ReadError.TheVariants.{Failed, NoMemory}

-- a call that fails counts a fault, and no other does
abbrev pub CountsFault : {T E : Type 0} → Result T E → ℕ → ℕ → Type 0
CountsFault result old new = MatchResult result (λ _. new ≡ old) (λ _. new ≡ old + 1)

-- how many reads have failed where a source could not be read up to a limit
abbrev pub faults_of : ReadError → ℕ
faults_of Failed = 1
faults_of NoMemory = 0

-- reading up to a limit counts a fault where a read failed, and none where memory was missing
abbrev pub CountsReadFault : {T : Type 0} → Result T ReadError → ℕ → ℕ → Type 0
CountsReadFault result old new = MatchResult result (λ _. new ≡ old) (λ e. new ≡ old + faults_of e)

-- what is printed for the error
abbrev pub message_of : ReadError → List ℕ
message_of Failed = codes "a read failed"
message_of NoMemory = codes "there is no memory for the bytes"

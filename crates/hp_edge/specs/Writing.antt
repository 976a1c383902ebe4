-- What was written to a sink, and what its count of faults is then. This project's own.
use Rattle.std.specs.Prelude.{◌≡◌, ℕ, ◌+◌, ◌<◌, List, length, take}
use Rattle.std.specs.Io.KnownBytes.{append_known}
use Rattle.hp_io.specs.declared.sink.Sink as Sink

-- all bytes were written, no fault is counted, and the answer is this status
abbrev pub WroteAll : {K : Type 0} → Sink.Ghosts K → (old new : K) → (bytes : List ℕ) → (status answer : ℕ) → Type 0
WroteAll sink old new bytes status answer =
    (answer ≡ status)
    × (sink.taken new ≡ append_known (sink.taken old) bytes)
    × (sink.faults new ≡ sink.faults old)

-- the first bytes were written, and not all, and one fault more is counted
abbrev pub WrotePart : {K : Type 0} → Sink.Ghosts K → (old new : K) → (bytes : List ℕ) → Type 0
WrotePart sink old new bytes =
    (n : ℕ)
    × (n < length bytes)
    × (sink.taken new ≡ append_known (sink.taken old) (take n bytes))
    × (sink.faults new ≡ sink.faults old + 1)

-- What was read of the bytes that a source has left, and what a sink has taken of some bytes, where each tells of its
-- bytes: this project's own.
use Rattle.std.specs.Prelude.{◌≡◌, ℕ, ◌<◌, ◌≤◌, Option, List, length, take}
use Rattle.std.specs.Io.KnownBytes.{append_known, prepend_known}

-- a sink took a front of the bytes, and not all
abbrev pub TookPart : (bytes : List ℕ) → (old new : Option (List ℕ)) → Type 0
TookPart bytes old new = (n : ℕ) × (n < length bytes) × (new ≡ append_known old (take n bytes))

-- a source gave at most so many bytes, which stood first in it
abbrev pub GaveAtMost : (most : ℕ) → (old new : Option (List ℕ)) → Type 0
GaveAtMost most old new = (bs : List ℕ) × (length bs ≤ most) × (old ≡ prepend_known bs new)

-- what a source gave stands behind what was read before
abbrev pub MovesBytes : (read : List ℕ) → (left : Option (List ℕ)) → (new_read : List ℕ) → (new_left : Option (List ℕ)) → Type 0
MovesBytes read left new_read new_left = prepend_known new_read new_left ≡ prepend_known read left

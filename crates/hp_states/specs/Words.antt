-- Tables of words, each with what it says. This project's own.
use Rattle.std.specs.Prelude.{ℕ, if◌then◌else◌, List, [], ◌∷◌, Option, Some, None}
use Rattle.std.specs.Borrow.{Bor}
use Rattle.std.specs.Str.{bytes_eq}

-- what the first row of this word says
abbrev pub says : {V : Type 0} → List ℕ → List (Bor (List ℕ) × V) → Option V
says word [] = None
says word (row ∷ rows) = if bytes_eq word row.0.now then Some row.1 else says word rows

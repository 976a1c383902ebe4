-- The pieces of a text between the bytes that part them, as lines are the pieces between newlines. A last piece
-- behind the last such byte is one exactly where it isn't empty. This project's own.
use Rattle.std.specs.Prelude.{ℕ, ◌==◌, List, [], ◌∷◌, Option, Some, None, if◌then◌else◌}

-- a byte more in front of the first piece, which it begins where there is none
abbrev pub onto_first : (byte : ℕ) → List (List ℕ) → List (List ℕ)
onto_first byte [] = (byte ∷ []) ∷ []
onto_first byte (piece ∷ pieces) = (byte ∷ piece) ∷ pieces

abbrev pub pieces : (end : ℕ) (bytes : List ℕ) → List (List ℕ)
pieces end [] = []
pieces end (byte ∷ bytes) = if byte == end then [] ∷ pieces end bytes else onto_first byte (pieces end bytes)

-- the lines of the input, without their newlines
abbrev pub lines : (bytes : List ℕ) → List (List ℕ)
lines bytes = pieces 10 bytes

-- the first, and those behind it
abbrev pub next : List (List ℕ) → Option (List ℕ × List (List ℕ))
next [] = None
next (piece ∷ pieces) = Some (piece, pieces)

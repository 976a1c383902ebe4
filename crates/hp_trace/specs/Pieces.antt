-- A text's lines and a line's words. The lines are the pieces between the newlines of a text; the words of a line are the
-- pieces between its spaces that aren't empty. This project's own.
use Rattle.std.specs.Prelude.{ℕ, ◌==◌, Bool, true, false, List, [], ◌∷◌, Option, Some, None}
use Rattle.std.specs.Borrow.{Bor}
use Rattle.std.specs.List.{slice_split}

-- the pieces between the separators of some bytes: one more than there are separators
abbrev pub pieces : (by : ℕ) → (bytes : List ℕ) → List (List ℕ)
pieces by bytes = slice_split (λ b. b == by) bytes

abbrev pub pieces_left : (by : ℕ) → Option (Bor (List ℕ)) → List (List ℕ)
pieces_left by None = []
pieces_left by (Some b) = pieces by b.now

abbrev pub is_none_left : List (List ℕ) → Bool
is_none_left [] = true
is_none_left (w ∷ ws) = false

-- those that aren't empty
abbrev pub that_say : List (List ℕ) → List (List ℕ)
that_say [] = []
that_say ([] ∷ ws) = that_say ws
that_say ((b ∷ bs) ∷ ws) = (b ∷ bs) ∷ that_say ws

unfoldable pub words_of : (line : List ℕ) → List (List ℕ)
words_of line = that_say (pieces 32 line)

-- the first
abbrev pub first_of : List (List ℕ) → Option (List ℕ)
first_of [] = None
first_of (w ∷ ws) = Some w

-- those behind it
abbrev pub others_of : List (List ℕ) → List (List ℕ)
others_of [] = []
others_of (w ∷ ws) = ws

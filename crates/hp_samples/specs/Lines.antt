-- The first line at which two texts differ. This project's own.
use Rattle.std.specs.Prelude.{ℕ, suc, eqb, if◌then◌else◌, List, [], ◌∷◌, Option, Some, None}

-- the line behind a byte
abbrev pub line_after : (byte line : ℕ) → ℕ
line_after byte line = if eqb byte 10 then suc line else line

-- of what is left of two texts, from this line on
abbrev pub first_difference : (found wanted : List ℕ) (line : ℕ) → Option ℕ
first_difference [] [] line = None
first_difference [] (c ∷ cs) line = Some line
first_difference (b ∷ bs) [] line = Some line
first_difference (b ∷ bs) (c ∷ cs) line = if eqb b c then first_difference bs cs (line_after b line) else Some line

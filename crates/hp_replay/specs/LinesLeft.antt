-- The lines that a reader has before it, and the number of the first of them; and what a line is. This project's own.
use Rattle.std.specs.Prelude.{◌≡◌, ◌≢◌, ℕ, ◌+◌, ◌<◌, List, ◌∷◌, length, slice_index}

pub record LinesLeft : Type 0 where
  -- counted from 1
  pub number : ℕ
  pub lines : List (List ℕ)

-- bytes with no newline but at their end
abbrev pub IsLine : List ℕ → Type 0
IsLine bytes = (k : ℕ) → k + 1 < length bytes → slice_index bytes k ≢ 10

-- the first line was taken
pub record Takes (before : LinesLeft) (number : ℕ) (line : List ℕ) (after : LinesLeft) : Type 0 where
  pub number_is : number ≡ before.number
  pub lines_are : before.lines ≡ line ∷ after.lines
  pub next_is : after.number ≡ before.number + 1

-- The number that an `end` line says, however large. This project's own.
use Rattle.std.specs.Prelude.{ℕ, if◌then◌else◌, List, [], ◌∷◌, Option, Some, None, codes}
use Rattle.std.specs.Option.{option_and_then}
use Rattle.hp_text.specs.Numbers.{is_number, value}
use Rattle.hp_replay.specs.LineWords.{words_at}
use Rattle.hp_replay.specs.Readers.{Field, Tail, Row, ◌>>=◌, done, row, one_of}

unfoldable pub any_number : Field ℕ
any_number w = if is_number w then Some (value w) else None

abbrev pub end_tail : Tail ℕ
end_tail = do
  count ← any_number
  done count

abbrev pub end_rows : List (Row ℕ)
end_rows = row (codes "end") end_tail ∷ []

unfoldable pub end_at : (line : List ℕ) → Option ℕ
end_at line = option_and_then (one_of end_rows) (words_at line)

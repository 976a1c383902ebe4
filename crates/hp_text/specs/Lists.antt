-- Lists of numbers in words: one or more, or a dash where there is none; and whether they rise. This project's own.
use Rattle.std.specs.Prelude.{ℕ, if◌then◌else◌, List, [], ◌∷◌, Err, codes}
use Rattle.std.specs.Str.{bytes_eq}
use Rattle.hp_text.specs.declared.unread.Unread.TheVariants.{NotOfForm}
use Rattle.hp_text.specs.Readings.{Tail, done, each, some}
use Rattle.hp_text.specs.Numbers.{number}

-- one number or more
abbrev pub number_list : Tail (List ℕ)
number_list words = some number words

-- some numbers, or a dash alone
unfoldable pub number_list_or_dash : Tail (List ℕ)
number_list_or_dash [] = Err NotOfForm
number_list_or_dash (w ∷ ws) = if bytes_eq w (codes "-") then done [] ws else each number (w ∷ ws)

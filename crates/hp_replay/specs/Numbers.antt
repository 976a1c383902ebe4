-- Words that are numbers, as a journal has them: a word of another form says nothing, and neither does a number that is
-- out of its range. This project's own.
use Rattle.std.specs.Prelude.{ℕ, ◌^◌, nat_lt, if◌then◌else◌, List, Option, Some, None, ℤ}
use Rattle.std.specs.Result.{result_ok}
use Rattle.hp_text.specs.Numbers as text

-- a number of the type u32
abbrev pub number : (word : List ℕ) → Option ℕ
number word = result_ok (text.number word)

-- the same number, where it is of the type u32
abbrev pub fitting : ℕ → Option ℕ
fitting n = if nat_lt n (2 ^ 32) then Some n else None

-- a signed number of the type i32
abbrev pub integer : (word : List ℕ) → Option ℤ
integer word = result_ok (text.integer word)

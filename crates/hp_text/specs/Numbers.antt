-- Words that are numbers, and what they say: `0`, or digits of which the first isn't 0. A signed one may have a `-`
-- before it, but not before 0. This project's own.
use Rattle.std.specs.Prelude.{ℕ, zero, suc, ◌+◌, ◌-◌, ◌*◌, ◌^◌, ℤ, pos, negsuc, Bool, false, not, ◌&&◌, ◌||◌, ◌==◌, nat_lt, nat_le, if◌then◌else◌, List, [], ◌∷◌, Option, Some, None, Result, Ok, Err}
use Rattle.std.specs.List.{list_all}
use Rattle.hp_text.specs.declared.unread.Unread.{Unread}
use Rattle.hp_text.specs.declared.unread.Unread.TheVariants.{NotOfForm, OutOfRange}
use Rattle.hp_model.specs.Lists.{is_empty}

abbrev pub is_digit : ℕ → Bool
is_digit byte = nat_le 48 byte && nat_le byte 57

abbrev pub are_digits : List ℕ → Bool
are_digits bytes = list_all is_digit bytes

-- a word whose first byte isn't 0, unless that stands alone
abbrev pub is_plain : (word : List ℕ) → Bool
is_plain [] = false
is_plain (byte ∷ bytes) = is_empty bytes || not (byte == 48)

abbrev pub is_number : (word : List ℕ) → Bool
is_number word = is_plain word && are_digits word

-- the number that digits say behind those that said n
abbrev pub read_on : (n : ℕ) → (digits : List ℕ) → ℕ
read_on n [] = n
read_on n (byte ∷ bytes) = read_on (n * 10 + (byte - 48)) bytes

abbrev pub value : (digits : List ℕ) → ℕ
value digits = read_on 0 digits

-- a number with a digit more, where it is of the type u64
abbrev pub with_digit : (n digit : ℕ) → Option ℕ
with_digit n digit = if nat_lt (n * 10 + digit) (2 ^ 64) then Some (n * 10 + digit) else None

-- a number, where it is below a limit
abbrev pub if_below : (limit n : ℕ) → Result ℕ Unread
if_below limit n = if nat_lt n limit then Ok n else Err OutOfRange

-- the number below a limit that digits say
abbrev pub digits_below : (limit : ℕ) → (digits : List ℕ) → Result ℕ Unread
digits_below limit digits = if are_digits digits then if_below limit (value digits) else Err NotOfForm

-- why bytes say no number below a limit that the first of them, as digits, pass
abbrev pub past_limit : (bytes : List ℕ) → Unread
past_limit bytes = if are_digits bytes then OutOfRange else NotOfForm

-- the number below a limit that a word says
unfoldable pub number_below : (limit : ℕ) → (word : List ℕ) → Result ℕ Unread
number_below limit word = if is_number word then if_below limit (value word) else Err NotOfForm

-- a number, where it is at least as high as another
abbrev pub at_least : (low : ℕ) → Result ℕ Unread → Result ℕ Unread
at_least low (Ok n) = if nat_le low n then Ok n else Err OutOfRange
at_least low (Err unread) = Err unread

-- the number from `low`, below a limit, that a word says
abbrev pub number_from : (low limit : ℕ) → (word : List ℕ) → Result ℕ Unread
number_from low limit word = at_least low (number_below limit word)

-- a number of the type u64
abbrev pub long_number : (word : List ℕ) → Result ℕ Unread
long_number word = number_below (2 ^ 64) word

-- a number of the type u32
abbrev pub number : (word : List ℕ) → Result ℕ Unread
number word = number_below (2 ^ 32) word

-- a number behind a minus, which isn't 0
abbrev pub negated : Result ℕ Unread → Result ℤ Unread
negated (Ok zero) = Err NotOfForm
negated (Ok (suc n)) = Ok (negsuc n)
negated (Err unread) = Err unread

-- a number without a minus
abbrev pub natural : Result ℕ Unread → Result ℤ Unread
natural (Ok n) = Ok (pos n)
natural (Err unread) = Err unread

-- a signed number of the type i32
unfoldable pub integer : (word : List ℕ) → Result ℤ Unread
integer [] = Err NotOfForm
integer (byte ∷ bytes) =
    if byte == 45
    then negated (number_below (2 ^ 31 + 1) bytes)
    else natural (number_below (2 ^ 31) (byte ∷ bytes))

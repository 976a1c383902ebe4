-- Numbers in files: which bytes say a number where one is written, and the bytes that a file of a number has. After
-- `target_store` of `kernel/cpu.c`, which reads by `kstrtoint`, and `target_show`, which prints by `%d\n`; the form that
-- is read is this project's own.
use Rattle.std.specs.Prelude.{◌≡◌, ℕ, ◌-◌, ◌≤◌, ◌==◌, ℤ, pos, neg_ℤ, Bool, if◌then◌else◌, List, [], ◌∷◌, ◌++◌, length, take, slice_index, FitsSigned}
use Rattle.std.specs.Int.{w32}
use Rattle.std.specs.Fmt.{signed_decimal}
use Rattle.std.specs.Str.Parse.{IsNumeral, digits_value}

-- `-`, or nothing
abbrev pub minus_if : Bool → List ℕ
minus_if is_negative = if is_negative then 45 ∷ [] else []

-- a newline, or nothing
abbrev pub newline_if : Bool → List ℕ
newline_if is_ended = if is_ended then 10 ∷ [] else []

abbrev pub negative_if : Bool → ℤ → ℤ
negative_if is_negative z = if is_negative then neg_ℤ z else z

-- one to ten digits, and the number that they are
abbrev pub IsShortNumeralOf : (digits : List ℕ) → ℕ → Type 0
IsShortNumeralOf digits n = IsNumeral 10 digits × (length digits ≤ 10) × (n ≡ digits_value 10 digits)

abbrev pub IsNoShortNumeral : (digits : List ℕ) → Type 0
IsNoShortNumeral digits = IsNumeral 10 digits → length digits ≤ 10 → ⊥

-- One to ten digits, which may begin with zeros: behind a minus or without one they say a number of the type i32.
pub record DigitsSay (is_negative : Bool) (digits : List ℕ) (number : ℤ) : Type 0 where
  pub are_digits : IsNumeral 10 digits
  pub at_most_ten : length digits ≤ 10
  pub number_is : number ≡ negative_if is_negative (pos (digits_value 10 digits))
  pub fits : FitsSigned w32 number

-- an optional `-`, the digits, and an optional last newline
pub record IsNumberText (bytes : List ℕ) (number : ℤ) : Type 0 where
  pub is_negative : Bool
  pub digits : List ℕ
  pub is_ended : Bool
  pub bytes_are : bytes ≡ minus_if is_negative ++ (digits ++ newline_if is_ended)
  pub said : DigitsSay is_negative digits number

-- a text without its last byte, where that is a newline
abbrev pub without_newline : (bytes : List ℕ) → List ℕ
without_newline bytes = if slice_index bytes (length bytes - 1) == 10 then take (length bytes - 1) bytes else bytes

-- the bytes of a file of a number
abbrev pub number_line : ℤ → List ℕ
number_line number = signed_decimal number ++ 10 ∷ []

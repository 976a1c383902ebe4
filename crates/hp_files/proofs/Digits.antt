-- The number that the digits so far say.
use Rattle.std.proofs.Common.{◌≡◌, ◌∙◌, ℕ, ◌+◌, ◌-◌, ◌*◌, ◌^◌, ◌<◌, ◌≤◌, List, length, take, get_or, sym, ap, arith}
use Rattle.std.specs.Char.{digit_value}
use Rattle.std.specs.Int.{IsInRange}
use Rattle.std.specs.Str.Parse.{AllDigits, digits_value}
use Rattle.std.proofs.lemmas.Int.Digits.{digits_more, digits_value_more}
use Rattle.std.proofs.lemmas.List.{length-take}
use Rattle.std.proofs.lemmas.Str.{digit_value_digit}
use Rattle.std.proofs.lemmas.Str.Parse.{IsNumeralModel, numerals_by_value, tells_digits, digits_value_short}

own : IsNumeralModel (AllDigits 10) (digits_value 10)
own = numerals_by_value (AllDigits 10) tells_digits

digit_is : (byte : ℕ) → IsInRange 48 57 byte → digit_value byte ≡ byte - 48
digit_is byte digit = let sum : digit_value byte + 48 ≡ byte = digit_value_digit byte digit in omega (arith, sum)

-- one digit more
pub all_more : (digits : List ℕ) (i : ℕ) → i < length digits → AllDigits 10 (take i digits) →
    IsInRange 48 57 (get_or digits i 0) → AllDigits 10 (take (i + 1) digits)
all_more digits i inside all digit =
    let sum : digit_value (get_or digits i 0) + 48 ≡ get_or digits i 0 = digit_value_digit (get_or digits i 0) digit in
    digits_more 10 digits i inside all (omega (arith, sum, digit.0, digit.1))

pub value_more : (digits : List ℕ) (i value : ℕ) → i < length digits → value ≡ digits_value 10 (take i digits) →
    IsInRange 48 57 (get_or digits i 0) →
    value * 10 + (get_or digits i 0 - 48) ≡ digits_value 10 (take (i + 1) digits)
value_more digits i value inside same digit =
    ap (λ (n : ℕ). n * 10 + (get_or digits i 0 - 48)) same
    ∙ ap (λ (d : ℕ). digits_value 10 (take i digits) * 10 + d) (sym (digit_is (get_or digits i 0) digit))
    ∙ sym (digits_value_more 10 digits i inside)

-- with one digit or more left of ten, there is room for it
pub small : (digits : List ℕ) (i value : ℕ) → length digits ≤ 10 → i < length digits → AllDigits 10 (take i digits) →
    value ≡ digits_value 10 (take i digits) → value < 10 ^ 9
small digits i value short inside all same =
    let front : length (take i digits) ≤ 9 = omega (arith, length-take i digits) in
    rw same (digits_value_short own (take i digits) 9 all front)

pub ten_digits : (digits : List ℕ) → AllDigits 10 digits → length digits ≤ 10 → digits_value 10 digits < 10 ^ 10
ten_digits digits all short = digits_value_short own digits 10 all short

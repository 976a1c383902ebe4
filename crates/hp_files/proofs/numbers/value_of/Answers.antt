use Rattle.std.proofs.Common.{◌≡◌, ℕ, ◌<◌, ◌^◌, List, take, subst, get_or, arith, rules}
use Rattle.std.specs.Int.{IsInRange}
use Rattle.std.proofs.lemmas.List.{take_all}
use Rattle.std.specs.Str.Parse.{AllDigits, digits_value}
use Rattle.std.proofs.lemmas.Str.Parse.{digit_at}
use Rattle.hp_files.proofs.Digits.{all_more, value_more, small, ten_digits}
use Rattle.hp_files.proofs.numbers.value_of.Goals as goal

pub returns-clause-small : goal.returns-clause-small
returns-clause-small c =
    let front : take c.loop-byte.byte-index c.args.digits.now ≡ c.args.digits.now = take_all c.loop-byte.byte-index c.args.digits.now c.loop-byte-test.false in
    let same : c.loop-byte.value ≡ digits_value 10 c.args.digits.now = rw (← front) c.loop-byte.invariant.1 in
    let all : AllDigits 10 c.args.digits.now = subst (λ (l : List ℕ). AllDigits 10 l) front c.loop-byte.invariant.0 in
    rw same (ten_digits c.args.digits.now all c.if-digits-gt10.false)

pub returns-then-not-is_ascii_digit-clause-said : goal.returns-then-not-is_ascii_digit-clause-said
returns-then-not-is_ascii_digit-clause-said c numeral short =
    let digit : IsInRange 48 57 (get_or c.args.digits.now c.loop-byte.byte-index 0) = digit_at c.args.digits.now c.loop-byte.byte-index numeral.1 c.loop-byte-test.true in
    search (rules, digit.0, digit.1)

pub overflow_mul-value : goal.overflow_mul-value
overflow_mul-value c =
    let below : c.loop-byte.value < 10 ^ 9 = small c.args.digits.now c.loop-byte.byte-index c.loop-byte.value c.if-digits-gt10.false c.loop-byte-test.true c.loop-byte.invariant.0 c.loop-byte.invariant.1 in
    omega (arith, below)

pub overflow_add-value : goal.overflow_add-value
overflow_add-value c =
    let below : c.loop-byte.value < 10 ^ 9 = small c.args.digits.now c.loop-byte.byte-index c.loop-byte.value c.if-digits-gt10.false c.loop-byte-test.true c.loop-byte.invariant.0 c.loop-byte.invariant.1 in
    let digit : IsInRange 48 57 (get_or c.args.digits.now c.loop-byte.byte-index 0) = search rules in
    omega (arith, below, digit.0, digit.1)

pub loop-byte-preserved : goal.loop-byte-preserved
loop-byte-preserved c =
    let digit : IsInRange 48 57 (get_or c.args.digits.now c.loop-byte.byte-index 0) = search rules in (
      all_more c.args.digits.now c.loop-byte.byte-index c.loop-byte-test.true c.loop-byte.invariant.0 digit,
      value_more c.args.digits.now c.loop-byte.byte-index c.loop-byte.value c.loop-byte-test.true c.loop-byte.invariant.1 digit,
    )

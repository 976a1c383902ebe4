use Rattle.std.proofs.Common.{◌≡◌, ◌∙◌, get_or, true, false, Err, refl, ap, rules}
use Rattle.hp_text.specs.Numbers.{is_digit}
use Rattle.hp_text.proofs.DigitLoop.{no_digit, one_more, past, at_end}
use Rattle.hp_text.proofs.numbers.digits_below.Goals as goal

pub loop-byte-init : goal.loop-byte-init
loop-byte-init c = record { below = c.requires.some; rest = refl; form = refl }

pub loop-byte-preserved : goal.loop-byte-preserved
loop-byte-preserved c =
    let digit : is_digit (get_or c.args.digits.now c.loop-byte.byte-index 0) ≡ true = search rules in
    one_more c.args.limit c.loop-byte.byte-index c.loop-byte.value c.args.digits.now c.loop-byte.invariant c.loop-byte-test.true digit c.if-value-limit.false

pub returns-then-not-is_ascii_digit-clause-said : goal.returns-then-not-is_ascii_digit-clause-said
returns-then-not-is_ascii_digit-clause-said c =
    let other : is_digit (get_or c.args.digits.now c.loop-byte.byte-index 0) ≡ false = search rules in
    no_digit c.args.limit c.loop-byte.byte-index c.loop-byte.value c.args.digits.now c.loop-byte.invariant c.loop-byte-test.true other

pub returns-then-value-limit-clause-said : goal.returns-then-value-limit-clause-said
returns-then-value-limit-clause-said c =
    ap (λ u. Err u) c.past_limit.ensures
    ∙ past c.args.limit c.loop-byte.byte-index c.loop-byte.value c.args.digits.now c.loop-byte.invariant c.loop-byte-test.true c.if-value-limit.true

pub returns-clause-said : goal.returns-clause-said
returns-clause-said c = at_end c.args.limit c.loop-byte.byte-index c.loop-byte.value c.args.digits.now c.loop-byte.invariant c.loop-byte-test.false

use Rattle.std.proofs.Common.{◌∙◌, ◌+◌, ◌*◌, ◌-◌, ◌^◌, ◌≤◌, ℕ, get_or, Err, ap}
use Rattle.hp_text.proofs.DigitLoop.{past, too_large}
use Rattle.hp_text.proofs.numbers.long_digits.Goals as goal

pub returns-in-None : goal.returns-in-None
returns-in-None c =
    let n : ℕ = c.loop-byte.value * 10 + (get_or c.args.digits.now c.loop-byte.byte-index 0 - 48) in
    let large : 2 ^ 64 ≤ n = too_large n c.in-None.ensures in
    ap (λ u. Err u) c.past_limit.ensures
    ∙ past (2 ^ 64) c.loop-byte.byte-index c.loop-byte.value c.args.digits.now c.loop-byte.invariant c.loop-byte-test.true large

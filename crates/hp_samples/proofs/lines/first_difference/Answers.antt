use Rattle.std.proofs.Common.{◌≡◌, ◌<◌, length, arith}
use Rattle.hp_samples.proofs.Bytes.{is_longer, is_shorter}
use Rattle.hp_samples.proofs.lines.first_difference.Goals as goal

pub returns-then-at-wanted : goal.returns-then-at-wanted
returns-then-at-wanted c =
    is_longer c.args.found.now c.args.wanted.now c.loop-at.at c.loop-at.line _ c.loop-at-test.true c.if-at-wanted.true
    c.loop-at.invariant.0

pub returns-then-found-wanted : goal.returns-then-found-wanted
returns-then-found-wanted c =
    let over = c.loop-at-test.false in
    let within = c.loop-at.auto.at-end in
    let shorter = c.if-found-wanted.true in
    let end : c.loop-at.at ≡ length c.args.found.now = omega (arith, over, within) in
    let below : c.loop-at.at < length c.args.wanted.now = omega (arith, over, within, shorter) in
    is_shorter c.args.found.now c.args.wanted.now c.loop-at.at c.loop-at.line _ end below c.loop-at.invariant.0

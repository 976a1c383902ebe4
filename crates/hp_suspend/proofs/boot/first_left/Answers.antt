use Rattle.std.proofs.Common.{ℕ, ◌&&◌, Bool, false, not, get_or, length, refl, arith}
use Rattle.hp_suspend.proofs.Places.{found_here, found_none}
use Rattle.hp_suspend.proofs.boot.first_left.Goals as goal

pub returns-then-passed-below : goal.returns-then-passed-below
returns-then-passed-below c =
    let ps = c.args.present.now in
    let on = c.args.online.now in
    let test : ℕ → Bool = λ d. get_or ps d false && not (get_or on d false) in
    found_here test (length ps) c.loop-cpu.cpu c.loop-cpu.passed c.args.below c.loop-cpu-test.true
    (rw (c.if-present-cpu.true, c.if-not-online-cpu.true) refl)
    c.loop-cpu.invariant.0 c.if-passed-below.true

pub returns : goal.returns
returns c =
    let ps = c.args.present.now in
    let on = c.args.online.now in
    let test : ℕ → Bool = λ d. get_or ps d false && not (get_or on d false) in
    found_none test (length ps) c.loop-cpu.cpu c.loop-cpu.passed c.args.below (omega arith) c.loop-cpu.invariant.0
    c.loop-cpu.invariant.1

use Rattle.std.proofs.Common.{◌≡◌, ℕ, ◌&&◌, ◌<◌, Bool, true, false, ltb, get_or, length, arith}
use Rattle.std.proofs.lemmas.Bool.{lt-ltb}
use Rattle.hp_suspend.proofs.Places.{found_here, found_none}
use Rattle.hp_suspend.proofs.thaw.first_left.Goals as goal

passes : (on : Bool) (n : ℕ) → on ≡ true → n < 200 → (on && ltb n 200) ≡ true
passes on n h l = rw h (lt-ltb n 200 l)

pub returns-then-passed-below : goal.returns-then-passed-below
returns-then-passed-below c =
    let fs = c.args.frozen.now in
    let ss = c.args.settled.now in
    let at = c.loop-cpu.cpu in
    let test : ℕ → Bool = λ d. get_or fs d false && ltb (get_or ss d 0) 200 in
    found_here test (length fs) at c.loop-cpu.passed c.args.below c.loop-cpu-test.true
    (passes (get_or fs at false) (get_or ss at 0) c.if-frozen-cpu.true c.if-settled-cpu-lt-ONLINE.true)
    c.loop-cpu.invariant.0 c.if-passed-below.true

pub returns : goal.returns
returns c =
    let fs = c.args.frozen.now in
    let ss = c.args.settled.now in
    let test : ℕ → Bool = λ d. get_or fs d false && ltb (get_or ss d 0) 200 in
    found_none test (length fs) c.loop-cpu.cpu c.loop-cpu.passed c.args.below (omega arith) c.loop-cpu.invariant.0
    c.loop-cpu.invariant.1

use Rattle.std.proofs.Common.{◌≡◌, ◌≤◌, ◌&&◌, false, ltb, get_or}
use Rattle.hp_suspend.proofs.Places.{passing}
use Rattle.hp_suspend.proofs.thaw.first_left.Given as goal

abbrev pub invariant-loop-cpu : goal.invariant-loop-cpu
invariant-loop-cpu l =
    (passing (λ c. get_or l.frozen c false && ltb (get_or l.settled c 0) 200) l.cpu ≡ l.passed) × (l.passed ≤ l.below)

use Rattle.std.proofs.Common.{◌≡◌, ◌≤◌, ◌&&◌, false, not, get_or}
use Rattle.hp_suspend.proofs.Places.{passing}
use Rattle.hp_suspend.proofs.boot.first_left.Given as goal

abbrev pub invariant-loop-cpu : goal.invariant-loop-cpu
invariant-loop-cpu l =
    (passing (λ c. get_or l.present c false && not (get_or l.online c false)) l.cpu ≡ l.passed) × (l.passed ≤ l.below)

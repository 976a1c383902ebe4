use Rattle.std.proofs.Common.{◌≡◌, false, get_or}
use Rattle.hp_suspend.proofs.Places.{passing}
use Rattle.hp_suspend.proofs.freeze.lowest.Given as goal

abbrev pub invariant-loop-cpu : goal.invariant-loop-cpu
invariant-loop-cpu l = passing (λ c. get_or l.online c false) l.cpu ≡ 0

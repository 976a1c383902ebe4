use Rattle.std.proofs.Common.{◌≡◌, ℕ, ◌<◌, ◌≤◌, false}
use Rattle.hp_reg.specs.Concerned.{is_concerned}
use Rattle.hp_reg.proofs.reg.lowest.Given as goal

abbrev pub invariant-loop-cpu : goal.invariant-loop-cpu
invariant-loop-cpu l = (d : ℕ) → l.from ≤ d → d < l.cpu → is_concerned l.state l.settled l.absent d ≡ false

use Rattle.std.proofs.Common.{◌≡◌, ℕ, ◌<◌, false}
use Rattle.hp_model.specs.Lists.{among}
use Rattle.hp_model.specs.Suspend.{frozen}
use Rattle.hp_smt.proofs.smt.Smt.has_frozen.Given as goal

abbrev pub invariant-loop-cpu : goal.invariant-loop-cpu
invariant-loop-cpu g l = (k : ℕ) → k < l.cpu → among k (frozen l.self.board.events) ≡ false

use Rattle.std.proofs.Common.{◌≡◌, ℕ, ◌<◌, ◌&&◌, false}
use Rattle.hp_model.specs.Settled.{is_online}
use Rattle.hp_smt.specs.Siblings.{is_sibling}
use Rattle.hp_smt.proofs.smt.Smt.sibling_online.Given as goal

abbrev pub invariant-loop-cpu : goal.invariant-loop-cpu
invariant-loop-cpu g l = (k : ℕ) → k < l.cpu → (is_online k l.self.board.events && is_sibling l.self.threads k) ≡ false

use Rattle.std.proofs.Common.{◌≡◌, ◌↔◌, IsTrue, sym, subst}
use Rattle.hp_event.proofs.Alike.{same_ops}
use Rattle.hp_board.proofs.turn.is_same.Goals as goal

pub returns : goal.returns
returns c = subst (λ r. IsTrue r ↔ (c.args.one.now ≡ c.args.other.now)) (sym c.eq.ensures) (same_ops c.args.one.now c.args.other.now)

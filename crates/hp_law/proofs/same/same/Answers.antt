use Rattle.std.proofs.Common.{◌≡◌, ◌↔◌, IsTrue, sym, subst}
use Rattle.hp_event.proofs.Alike.{same_events}
use Rattle.hp_law.proofs.same.same.Goals as goal

pub returns : goal.returns
returns c = subst (λ r. IsTrue r ↔ (c.args.one.now ≡ c.args.other.now)) (sym c.eq.ensures) (same_events c.args.one.now c.args.other.now)

-- The seat is still that of its processor's thread.
use Rattle.std.proofs.Common.{ℕ, sym, subst}
use Rattle.hp_live.specs.Known.{IsThread}
use Rattle.hp_live.proofs.AfterTries.{served_thread}
use Rattle.hp_live.proofs.hotplug.Hotplug.try_serve.Goals as goal

pub invariant_of-ap : goal.invariant_of-ap
invariant_of-ap g c =
    subst (λ (k : ℕ). IsThread k c.try_entry.new.own.front) (sym c.try_entry.ensures.same.seat)
    (served_thread c.ap.inside.own c.try_entry.new.own c.try_entry.result c.try_entry.ensures.tried c.ap.invariant)

-- The operation that is lent is the one that comes next.
use Rattle.std.proofs.Common.{ℕ, vec_len, refl}
use Rattle.hp_actors.proofs.Agendas.{lent_some, lent_none}
use Rattle.hp_actors.proofs.actor.Actor.ask.Goals as goal

pub returns : goal.returns
returns g c =
    let asks = c.self.inside.asks.items in
    let n : ℕ = c.self.inside.answered in
    let count : ℕ = vec_len c.self.inside.asks in
    let counted = c.self.inside.asks.ok.0 in
    rw (← c.self.view_is) (
      refl,
      record {
        lends = tt;
        some = lent_some asks count n c.get_mut.result counted c.get_mut.ensures.variant.0 c.get_mut.ensures.value;
        none = lent_none asks count n c.get_mut.result counted c.get_mut.ensures.variant.1;
      },
    )

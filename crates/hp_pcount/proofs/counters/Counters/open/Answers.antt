use Rattle.std.proofs.Common.{refl}
use Rattle.hp_pcount.specs.Inside.{tally}
use Rattle.hp_pcount.proofs.Tallies.{tally_up}
use Rattle.hp_pcount.proofs.Sets.{places_put}
use Rattle.hp_pcount.proofs.counters.Counters.open.Goals as goal

pub invariant_of-self : goal.invariant_of-self
invariant_of-self c =
    rw (places_put c.self.inside.opened c.put.new.self c.args.cpu c.requires c.put.ensures)
    (tally_up (tally c.self.inside) c.args.cpu c.self.invariant c.requires)

pub returns : goal.returns
returns c =
    let view = c.self.view_is in
    rw (places_put c.self.inside.opened c.put.new.self c.args.cpu c.requires c.put.ensures, ← view) refl

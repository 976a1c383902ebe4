use Rattle.std.proofs.Common.{◌≡◌, get_or, to_z, of_z, refl, arith}
use Rattle.std.specs.Prelude.{pos, ◌+ℤ◌}
use Rattle.std.specs.Int.{w128}
use Rattle.hp_pcount.specs.Inside.{tally}
use Rattle.hp_pcount.proofs.Sums.{base_more}
use Rattle.hp_pcount.proofs.Tallies.{tally_down, total_fits}
use Rattle.hp_pcount.proofs.Sets.{places_taken}
use Rattle.hp_pcount.proofs.counters.Counters.close.Goals as goal

base_is : (c : goal.After-take) →
    to_z w128 (of_z w128 (to_z w128 (of_z w128 c.self.inside.base) +ℤ to_z w128 (of_z w128 c.from.result)))
    ≡ c.self.inside.base +ℤ get_or c.self.inside.parts c.args.cpu (pos 0)
base_is c =
    let small = c.self.invariant.within c.args.cpu in
    let most = c.self.invariant.batch_is in
    let z = total_fits (tally c.self.inside) c.self.invariant in
    base_more c.self.inside.base (get_or c.self.inside.parts c.args.cpu (pos 0)) c.from.result c.from.ensures (omega arith) (omega arith)

pub invariant_of-self : goal.invariant_of-self
invariant_of-self c =
    rw (base_is c, places_taken c.self.inside.opened c.take.new.self c.args.cpu c.requires c.take.ensures)
    (tally_down (tally c.self.inside) c.args.cpu c.self.invariant c.requires)

pub returns : goal.returns
returns c =
    let view = c.self.view_is in
    rw (base_is c, places_taken c.self.inside.opened c.take.new.self c.args.cpu c.requires c.take.ensures, ← view) refl

use Rattle.std.proofs.Common.{◌≡◌, sym, subst, List, Bool, ap}
use Rattle.std.specs.Prelude.{pos, replicate, []}
use Rattle.hp_states.specs.declared.limits.TheConstants.{MAX_CPU_SET}
use Rattle.hp_pcount.specs.Tally.{Tally, IsTally, none_added}
use Rattle.hp_pcount.specs.Inside.{places}
use Rattle.hp_pcount.specs.Stands.{StandsAt}
use Rattle.hp_pcount.proofs.Sets.{places_none}
use Rattle.hp_pcount.proofs.Tallies.{tally_none}
use Rattle.hp_pcount.proofs.Standing.{stands_none}
use Rattle.hp_pcount.proofs.counters.Counters.new.Goals as goal

made : goal.After-none → List Bool → Tally
made c o = record {
  state = c.args.state;
  batch = c.args.batch;
  base = pos 0;
  parts = replicate MAX_CPU_SET (pos 0);
  opened = o;
  adds = 0;
}

made_is : (c : goal.After-none) → made c (places c.none.result) ≡ none_added c.args.state c.args.batch
unfolding made none_added
made_is c = ap (made c) (places_none c.none.result c.none.ensures)

pub invariant_of-result : goal.invariant_of-result
unfolding made
invariant_of-result c = subst IsTally (sym (made_is c)) (tally_none c.args.state c.args.batch c.requires.state c.requires.batch)

pub returns-clause-none : goal.returns-clause-none
unfolding made
returns-clause-none c = made_is c

pub returns-clause-stands : goal.returns-clause-stands
unfolding made
returns-clause-stands c = subst (StandsAt [] (pos 0)) (sym (made_is c)) (stands_none c.args.state c.args.batch)

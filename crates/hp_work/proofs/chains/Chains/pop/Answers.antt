use Rattle.std.proofs.Common.{◌-◌, ap, ◌∙◌}
use Rattle.std.specs.Prelude.{slice_get}
use Rattle.std.proofs.Math.ListN.{set}
use Rattle.hp_work.specs.Lists.{list, popped}
use Rattle.hp_work.specs.Chained.{lists_of, chain_at}
use Rattle.hp_work.proofs.Chaining.{Made, one_more, chain_is, first_some}
use Rattle.hp_work.proofs.Moving.{front_taken, popped_taken}
use Rattle.hp_work.proofs.chains.Chains.pop.Goals as goal

pub remove-node-requires : goal.remove-node-requires
remove-node-requires c =
    let chain = chain_at c.self.inside.chains c.args.place in
    let n = one_more chain.many c.if-chain-eq0.false in
    first_some c.self.inside.nodes chain n.0 (chain_is c.self.inside.nodes c.self.inside.chains c.self.invariant c.args.place c.requires) n.1

taken_made : (c : goal.After-way_told-2-1) →
    Made c.remove-node.new.self
    (set c.self.inside.chains c.args.place
    (record {
      first = c.remove-node.result.next;
      last = (chain_at c.self.inside.chains c.args.place).last;
      many = (chain_at c.self.inside.chains c.args.place).many - 1;
    }))
    (popped c.args.place (lists_of c.self.inside.nodes c.self.inside.chains))
taken_made c =
    let e = c.remove-node.ensures in
    popped_taken c.self.inside.nodes c.remove-node.new.self c.self.inside.chains c.args.place c.remove-node.result c.self.invariant c.requires
    c.if-chain-eq0.false e.value e.updates e.len e.capacity

pub invariant_of-self : goal.invariant_of-self
invariant_of-self c = (taken_made c).chained

pub returns-clause-front : goal.returns-clause-front
returns-clause-front c =
    front_taken c.self.inside.nodes c.self.inside.chains c.args.place c.remove-node.result c.if-chain-eq0.false c.remove-node.ensures.value
    ∙ ap (λ ls. slice_get (list ls c.args.place) 0) c.self.view_is

pub returns-clause-rest : goal.returns-clause-rest
returns-clause-rest c = (taken_made c).lists_are ∙ ap (popped c.args.place) c.self.view_is

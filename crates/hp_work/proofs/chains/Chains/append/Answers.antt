use Rattle.std.proofs.Common.{◌+◌, sym, ap, ◌∙◌, subst, arith}
use Rattle.std.proofs.Math.ListN.{set}
use Rattle.hp_work.specs.Lists.{moved}
use Rattle.hp_work.specs.Chained.{lists_of, chain_at, no_items}
use Rattle.hp_work.proofs.Chaining.{Made, one_more, few_both}
use Rattle.hp_work.proofs.Moving.{moved_whole, moved_behind}
use Rattle.hp_work.proofs.chains.Chains.append.Goals as goal

whole_made : (c : goal.Then-before-eq0) →
    Made c.self.inside.nodes (set (set c.self.inside.chains c.args.from no_items) c.args.to (chain_at c.self.inside.chains c.args.from))
    (moved c.args.from c.args.to (lists_of c.self.inside.nodes c.self.inside.chains))
whole_made c =
    moved_whole c.self.inside.nodes c.self.inside.chains c.args.from c.args.to c.self.invariant c.requires.from c.requires.to c.requires.other
    c.if-before-eq0.true

pub invariant_of-self : goal.invariant_of-self
invariant_of-self c = (whole_made c).chained

pub returns-then-before-eq0 : goal.returns-then-before-eq0
returns-then-before-eq0 c = (whole_made c).lists_are ∙ ap (moved c.args.from c.args.to) c.self.view_is

pub overflow_add-self : goal.overflow_add-self
overflow_add-self c =
    let f = few_both c.self.inside.nodes c.self.inside.chains c.self.invariant c.args.from c.args.to c.requires.from c.requires.to c.requires.other in
    omega (arith, f)

behind_made : (c : goal.After-way_told-else-before-eq0-1) →
    Made c.link.new.nodes
    (set (set c.self.inside.chains c.args.from no_items) c.args.to
    (record {
      first = (chain_at c.self.inside.chains c.args.to).first;
      last = (chain_at c.self.inside.chains c.args.from).last;
      many = (chain_at c.self.inside.chains c.args.to).many + (chain_at c.self.inside.chains c.args.from).many;
    }))
    (moved c.args.from c.args.to (lists_of c.self.inside.nodes c.self.inside.chains))
behind_made c =
    let n = one_more (chain_at c.self.inside.chains c.args.to).many c.if-before-eq0.false in
    let m = one_more (chain_at c.self.inside.chains c.args.from).many c.if-behind-eq0.false in
    subst (λ s.
    Made s
    (set (set c.self.inside.chains c.args.from no_items) c.args.to
    (record {
      first = (chain_at c.self.inside.chains c.args.to).first;
      last = (chain_at c.self.inside.chains c.args.from).last;
      many = (chain_at c.self.inside.chains c.args.to).many + (chain_at c.self.inside.chains c.args.from).many;
    }))
    (moved c.args.from c.args.to (lists_of c.self.inside.nodes c.self.inside.chains)))
    (sym c.link.ensures)
    (moved_behind c.self.inside.nodes c.self.inside.chains c.args.from c.args.to c.self.invariant c.requires.from c.requires.to c.requires.other
    n.0 m.0 n.1 m.1)

pub invariant_of-self-else-before-eq0 : goal.invariant_of-self-else-before-eq0
invariant_of-self-else-before-eq0 c = (behind_made c).chained

pub returns-else-before-eq0 : goal.returns-else-before-eq0
returns-else-before-eq0 c = (behind_made c).lists_are ∙ ap (moved c.args.from c.args.to) c.self.view_is

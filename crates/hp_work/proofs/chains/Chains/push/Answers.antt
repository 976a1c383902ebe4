use Rattle.std.proofs.Common.{◌+◌, sym, ap, ◌∙◌, subst, arith}
use Rattle.std.proofs.Math.ListN.{set}
use Rattle.hp_work.specs.Lists.{pushed}
use Rattle.hp_work.specs.Chained.{lists_of, chain_at}
use Rattle.hp_work.proofs.Chaining.{Made, one_more, few_at}
use Rattle.hp_work.proofs.Moving.{pushed_first, pushed_more}
use Rattle.hp_work.proofs.chains.Chains.push.Goals as goal

pub insert_reserved-key-requires : goal.insert_reserved-key-requires
insert_reserved-key-requires c =
    let view = c.self.view_is in
    let room = rw (← view) at c.requires.room in
    let is = c.self.invariant in
    omega (arith, room, is.all_there, is.room)

first_made : (c : goal.Then-chain-eq0) →
    Made c.insert_reserved-key.new.self
    (set c.self.inside.chains c.args.place (record { first = c.insert_reserved-key.result; last = c.insert_reserved-key.result; many = 1 }))
    (pushed c.args.place c.args.item (lists_of c.self.inside.nodes c.self.inside.chains))
first_made c =
    let view = c.self.view_is in
    let e = c.insert_reserved-key.ensures in
    pushed_first c.self.inside.nodes c.insert_reserved-key.new.self c.self.inside.chains c.args.place c.args.item c.insert_reserved-key.result c.self.invariant
    c.requires.place (rw (← view) at c.requires.room) (rw (← view) at c.requires.nowhere) e.was_vacant e.updates e.len e.capacity c.if-chain-eq0.true

pub invariant_of-self : goal.invariant_of-self
invariant_of-self c = (first_made c).chained

pub returns-then-chain-eq0 : goal.returns-then-chain-eq0
returns-then-chain-eq0 c = (first_made c).lists_are ∙ ap (pushed c.args.place c.args.item) c.self.view_is

pub overflow_add-self : goal.overflow_add-self
overflow_add-self c =
    let f = few_at c.self.inside.nodes c.self.inside.chains c.self.invariant c.args.place c.requires.place in
    omega (arith, f)

more_made : (c : goal.After-way_told-else-chain-eq0-1) →
    Made c.link.new.nodes
    (set c.self.inside.chains c.args.place
    (record { first = (chain_at c.self.inside.chains c.args.place).first; last = c.insert_reserved-key.result; many = (chain_at c.self.inside.chains c.args.place).many + 1 }))
    (pushed c.args.place c.args.item (lists_of c.self.inside.nodes c.self.inside.chains))
more_made c =
    let view = c.self.view_is in
    let e = c.insert_reserved-key.ensures in
    let n = one_more (chain_at c.self.inside.chains c.args.place).many c.if-chain-eq0.false in
    subst (λ s.
    Made s
    (set c.self.inside.chains c.args.place
    (record { first = (chain_at c.self.inside.chains c.args.place).first; last = c.insert_reserved-key.result; many = (chain_at c.self.inside.chains c.args.place).many + 1 }))
    (pushed c.args.place c.args.item (lists_of c.self.inside.nodes c.self.inside.chains)))
    (sym c.link.ensures)
    (pushed_more c.self.inside.nodes c.insert_reserved-key.new.self c.self.inside.chains c.args.place c.args.item c.insert_reserved-key.result
    c.self.invariant c.requires.place (rw (← view) at c.requires.room) (rw (← view) at c.requires.nowhere) e.was_vacant e.updates e.len e.capacity n.0 n.1)

pub invariant_of-self-else-chain-eq0 : goal.invariant_of-self-else-chain-eq0
invariant_of-self-else-chain-eq0 c = (more_made c).chained

pub returns-else-chain-eq0 : goal.returns-else-chain-eq0
returns-else-chain-eq0 c = (more_made c).lists_are ∙ ap (pushed c.args.place c.args.item) c.self.view_is

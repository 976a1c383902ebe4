use Rattle.std.proofs.Common.{◌≡◌, ◌+◌, ◌-◌, ◌++◌, suc, map, sym, ap, subst, ◌∙◌, arith}
use Rattle.std.specs.Prelude.{All, IsSome}
use Rattle.std.proofs.lemmas.List.{append-nil}
use Rattle.slab.specs.Slab.{get}
use Rattle.hp_work.specs.Lists.{list}
use Rattle.hp_work.specs.Chained.{keys_from, item_at, items_of, chain_at}
use Rattle.hp_work.proofs.Chaining.{chain_is, list_at, one_further, there_further, there_next}
use Rattle.hp_work.proofs.chains.Chains.items.Goals as goal

pub loop-init : goal.loop-init
loop-init c =
    let s = c.self.inside.nodes in
    let chain = chain_at c.self.inside.chains c.args.place in
    let is = chain_is c.self.inside.nodes c.self.inside.chains c.self.invariant c.args.place c.requires in
    let all : chain.many ≡ chain.many - 0 = omega arith in
    record {
      so_far =
          ap (λ n. c.new-items.result.items ++ map (item_at s) (keys_from s n chain.first)) (sym all)
          ∙ ap (λ xs. xs ++ items_of s chain) c.new-items.ensures.items;
      there = subst (λ n. All (λ k. IsSome (get s k)) (keys_from s n chain.first)) all is.there;
    }

pub index-node-requires : goal.index-node-requires
index-node-requires c =
    let many = (chain_at c.self.inside.chains c.args.place).many in
    there_next c.self.inside.nodes (many - (c.loop.counter + 1)) (many - c.loop.counter) c.loop.key (omega arith) c.loop.invariant.there

pub loop-preserved : goal.loop-preserved
loop-preserved c =
    let s = c.self.inside.nodes in
    let chain = chain_at c.self.inside.chains c.args.place in
    let n = chain.many - (c.loop.counter + 1) in
    let node = c.index-node.result.now in
    let more : chain.many - c.loop.counter ≡ suc n = omega arith in
    record {
      so_far =
          ap (λ xs. xs ++ map (item_at s) (keys_from s n node.next)) c.in_ok-push.ensures.items
          ∙ one_further s c.loop.items.items (items_of s chain) n (chain.many - c.loop.counter) c.loop.key node more c.index-node.ensures
          c.loop.invariant.so_far;
      there = there_further s n (chain.many - c.loop.counter) c.loop.key node more c.index-node.ensures c.loop.invariant.there;
    }

pub returns : goal.returns
returns c =
    let s = c.self.inside.nodes in
    let chain = chain_at c.self.inside.chains c.args.place in
    let none : chain.many - c.loop.counter ≡ 0 = omega arith in
    sym (append-nil c.loop.items.items)
    ∙ (ap (λ n. c.loop.items.items ++ map (item_at s) (keys_from s n c.loop.key)) (sym none)
    ∙ (c.loop.invariant.so_far ∙ (sym (list_at s c.self.inside.chains c.args.place) ∙ ap (λ ls. list ls c.args.place) c.self.view_is)))

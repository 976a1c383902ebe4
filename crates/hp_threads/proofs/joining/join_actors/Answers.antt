use Rattle.std.proofs.Common.{◌≡◌, length, length-append, ap, List, [], ◌∷◌, arith}
use Rattle.std.specs.Vec.Iter.{into_iter_items}
use Rattle.hp_live.specs.Known.{Gone}
use Rattle.hp_threads.specs.declared.threads.ActorThread.{ActorThread}
use Rattle.hp_threads.proofs.Pairing.{joined_one, joined_all, nil_of}
use Rattle.hp_threads.proofs.joining.join_actors.Goals as goal

pub push_reserved-requires : goal.push_reserved-requires
push_reserved-requires g c =
    let rest = ap (λ (w : List (ActorThread g.row.H.Denot)). length w) c.in-Some.ensures.steps.0 in
    omega (arith, rest, c.loop-actor.lefts.ok.0, c.loop-actor.invariant.room)

pub loop-actor-preserved : goal.loop-actor-preserved
loop-actor-preserved g c =
    let rest = ap (λ (w : List (ActorThread g.row.H.Denot)). length w) c.in-Some.ensures.steps.0 in
    let more = ap (λ (w : List Gone). length w) c.push_reserved.ensures.items in
    let one = length-append c.loop-actor.lefts.items (c.join_actor.result ∷ []) in
    record {
      can_next = tt;
      is_finite = tt;
      joined =
          joined_one c.args.actors.items (into_iter_items c.loop-actor.actor-iterator) (into_iter_items c.next.new.self)
          c.loop-actor.lefts.items c.push_reserved.new.self.items c.in-Some.actor c.join_actor.result c.in-Some.ensures.steps.0
          c.push_reserved.ensures.items c.loop-actor.invariant.joined c.join_actor.ensures;
      room = omega (arith, rest, more, one, c.push_reserved.ensures.capacity, c.loop-actor.invariant.room);
    }

pub returns : goal.returns
returns g c =
    let none : length (into_iter_items c.loop-actor.actor-iterator) ≡ 0 =
    omega (arith, c.loop-actor.actor-iterator.rest.ok.0, c.in-None.ensures.steps.0) in
    joined_all c.args.actors.items (into_iter_items c.loop-actor.actor-iterator) c.loop-actor.lefts.items
    (nil_of (into_iter_items c.loop-actor.actor-iterator) none) c.loop-actor.invariant.joined

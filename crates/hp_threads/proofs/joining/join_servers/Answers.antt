use Rattle.std.proofs.Common.{◌≡◌, length, length-append, ap, List, [], ◌∷◌, arith}
use Rattle.std.specs.Vec.Iter.{into_iter_items}
use Rattle.hp_live.specs.Known.{Seated}
use Rattle.hp_threads.specs.declared.threads.ServerThread.{ServerThread}
use Rattle.hp_threads.proofs.Pairing.{back_one, back_all, nil_of}
use Rattle.hp_threads.proofs.joining.join_servers.Goals as goal

pub push_reserved-requires : goal.push_reserved-requires
push_reserved-requires g c =
    let rest = ap (λ (w : List (ServerThread g.row.H.Denot)). length w) c.in-Some.ensures.steps.0 in
    omega (arith, rest, c.loop-server.passes.ok.0, c.loop-server.invariant.room)

pub loop-server-preserved : goal.loop-server-preserved
loop-server-preserved g c =
    let rest = ap (λ (w : List (ServerThread g.row.H.Denot)). length w) c.in-Some.ensures.steps.0 in
    let more = ap (λ (w : List Seated). length w) c.push_reserved.ensures.items in
    let one = length-append c.loop-server.passes.items (c.join_server.result ∷ []) in
    record {
      can_next = tt;
      is_finite = tt;
      back =
          back_one c.args.servers.items (into_iter_items c.loop-server.server-iterator) (into_iter_items c.next.new.self)
          c.loop-server.passes.items c.push_reserved.new.self.items c.in-Some.server c.join_server.result c.in-Some.ensures.steps.0
          c.push_reserved.ensures.items c.loop-server.invariant.back c.join_server.ensures;
      room = omega (arith, rest, more, one, c.push_reserved.ensures.capacity, c.loop-server.invariant.room);
    }

pub returns : goal.returns
returns g c =
    let none : length (into_iter_items c.loop-server.server-iterator) ≡ 0 =
    omega (arith, c.loop-server.server-iterator.rest.ok.0, c.in-None.ensures.steps.0) in
    back_all c.args.servers.items (into_iter_items c.loop-server.server-iterator) c.loop-server.passes.items
    (nil_of (into_iter_items c.loop-server.server-iterator) none) c.loop-server.invariant.back

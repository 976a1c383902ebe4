-- An actor's operations, one after another, and its leave.
use Rattle.std.proofs.Common.{ap, subst, All, List, map}
use Rattle.std.proofs.lemmas.List.Elements.{All-tail}
use Rattle.std.specs.Vec.Iter.{into_iter_items}
use Rattle.hp_actors.specs.Positions.{op_of}
use Rattle.hp_board.specs.declared.turn.Ask.{Ask}
use Rattle.hp_threads.specs.Jobs.{IsReady}
use Rattle.hp_threads.specs.Standings.{is_inside, pass_of}
use Rattle.hp_threads.proofs.Playing.{played_one}
use Rattle.hp_threads.proofs.acting.act.Goals as goal

pub loop-ask-preserved : goal.loop-ask-preserved
loop-ask-preserved g c =
    let i = c.loop-ask.invariant in
    let e = c.do_one-standing.ensures in
    record {
      can_next = tt;
      is_finite = tt;
      idle = e.idle;
      nothing = e.nothing;
      ready =
          All-tail (IsReady c.args.job.pass.head) c.in-Some.ask (into_iter_items c.next.new.self)
          (subst (λ (w : List (Ask g.row.H.Denot)). All (IsReady c.args.job.pass.head) w) c.in-Some.ensures.steps.0 i.ready);
      played =
          played_one c.args.job.pass (pass_of c.loop-ask.standing) (pass_of c.do_one-standing.result) (map op_of c.args.job.asks.items)
          (map op_of (into_iter_items c.loop-ask.ask-iterator)) (map op_of (into_iter_items c.next.new.self)) c.in-Some.ask.op
          (is_inside c.loop-ask.standing) (is_inside c.do_one-standing.result)
          (ap (λ (w : List (Ask g.row.H.Denot)). map op_of w) c.in-Some.ensures.steps.0) i.played e.same e.done e.inside;
    }

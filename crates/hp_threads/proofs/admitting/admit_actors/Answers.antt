-- A client comes in for each actor.
use Rattle.std.proofs.Common.{All, List, sym, ◌∙◌, subst, arith}
use Rattle.std.proofs.lemmas.List.Elements.{All-push}
use Rattle.hp_threads.specs.declared.job.Job.{Job}
use Rattle.hp_threads.specs.Loaded.{IsLoaded}
use Rattle.hp_threads.proofs.Coming.{client_more, ops_more}
use Rattle.hp_threads.proofs.Taking.{actors_left}
use Rattle.hp_threads.proofs.admitting.admit_actors.Goals as goal

pub loop-number-preserved : goal.loop-number-preserved
loop-number-preserved g c =
    let i = c.loop-number.invariant in
    let e = c.in_ok-job.ensures in
    record {
      own = e.admitted.lock ∙ i.own;
      entered =
          client_more c.args.root.now c.loop-number.root c.admit_actor.new.root c.args.script.now.actors c.loop-number.number
          c.ops.result.now c.loop-number.jobs.items c.push.new.self.items c.in_ok-job.job c.ops.ensures c.in_ok-push.ensures.items
          i.entered e.admitted;
      ops =
          ops_more c.args.script.now.actors c.loop-number.number c.ops.result.now c.loop-number.jobs.items c.push.new.self.items
          c.in_ok-job.job c.ops.ensures c.in_ok-push.ensures.items i.ops e.ops;
      loaded =
          subst (λ (w : List (Job g.row.H.Denot)). All IsLoaded w) (sym c.in_ok-push.ensures.items)
          (All-push IsLoaded c.loop-number.jobs.items c.in_ok-job.job i.loaded e.loaded);
      left =
          let left = actors_left c.args.script.now.actors c.loop-number.number c.ops.result.now c.ops.ensures in
          omega (arith, left, e.rack, i.left);
    }

pub admit_actor-requires-clause-hooks : goal.admit_actor-requires-clause-hooks
admit_actor-requires-clause-hooks g c κs within =
    let left = actors_left c.args.script.now.actors c.loop-number.number c.ops.result.now c.ops.ensures in
    omega (arith, left, c.loop-number.invariant.left)

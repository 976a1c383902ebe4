-- The actors hear, one after another.
use Rattle.std.proofs.Common.{refl, sym, ap, ◌∙◌, subst, All, List, [], ◌∷◌, map}
use Rattle.std.proofs.lemmas.List.{map-append}
use Rattle.std.proofs.lemmas.List.Elements.{All-head, All-tail}
use Rattle.std.specs.Vec.Iter.{into_iter_items}
use Rattle.hp_live.specs.Known.{IsOf, Known}
use Rattle.hp_threads.specs.declared.job.Job.{Job}
use Rattle.hp_threads.specs.Admitting.{HasHeard, IsSeated, pass_in}
use Rattle.hp_threads.proofs.Hearing.{telling_one, asks_one}
use Rattle.hp_threads.proofs.telling.tell_actors.Goals as goal

pub tell_client-pass-requires-clause-own : goal.tell_client-pass-requires-clause-own
tell_client-pass-requires-clause-own g c κs within =
    subst (λ (k : Known). IsOf c.args.machine.now k.lock) (sym c.loop-job.invariant.root) c.requires.own

pub tell_client-pass-requires-clause-pass : goal.tell_client-pass-requires-clause-pass
tell_client-pass-requires-clause-pass g c κs within =
    let i = c.loop-job.invariant in
    subst (λ (k : Known). IsSeated k.lock k.head c.in-Some.job.pass) (sym i.root)
    (All-head (IsSeated c.args.root.now.lock c.args.root.now.head) c.in-Some.job.pass (map pass_in (into_iter_items c.next.new.self))
    (subst (λ (w : List (Job g.row.H.Denot)). All (IsSeated c.args.root.now.lock c.args.root.now.head) (map pass_in w))
    c.in-Some.ensures.steps.0 i.ready))

pub loop-job-preserved : goal.loop-job-preserved
loop-job-preserved g c =
    let i = c.loop-job.invariant in
    let e = c.tell_client-pass.ensures in
    record {
      can_next = tt;
      is_finite = tt;
      root = e.root ∙ i.root;
      ready =
          All-tail (IsSeated c.args.root.now.lock c.args.root.now.head) c.in-Some.job.pass (map pass_in (into_iter_items c.next.new.self))
          (subst (λ (w : List (Job g.row.H.Denot)). All (IsSeated c.args.root.now.lock c.args.root.now.head) (map pass_in w))
          c.in-Some.ensures.steps.0 i.ready);
      telling =
          telling_one c.args.root.now.front (map pass_in c.args.jobs.items) (map pass_in (into_iter_items c.loop-job.job-iterator))
          (map pass_in (into_iter_items c.next.new.self)) (map pass_in c.loop-job.told.items) (map pass_in c.push.new.self.items)
          c.in-Some.job.pass c.tell_client-pass.result
          (ap (λ (w : List (Job g.row.H.Denot)). map pass_in w) c.in-Some.ensures.steps.0)
          (ap (λ (w : List (Job g.row.H.Denot)). map pass_in w) c.in_ok-push.ensures.items
          ∙ map-append pass_in c.loop-job.told.items (record { pass = c.tell_client-pass.result; asks = c.in-Some.job.asks } ∷ []))
          i.telling (subst (λ (k : Known). HasHeard k.front c.in-Some.job.pass c.tell_client-pass.result) i.root e.heard);
      asks =
          asks_one c.args.jobs.items (into_iter_items c.loop-job.job-iterator) (into_iter_items c.next.new.self)
          c.loop-job.told.items c.push.new.self.items c.in-Some.job
          (record { pass = c.tell_client-pass.result; asks = c.in-Some.job.asks }) c.in-Some.ensures.steps.0
          c.in_ok-push.ensures.items refl i.asks;
    }

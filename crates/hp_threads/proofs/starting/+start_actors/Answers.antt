-- A thread for each, the last first.
use denote.Exit.{no}
use denote.Param.Send.{param_send, param_sync, arg_send, arg_sync, shr_send}
use Rattle.std.proofs.Common.{ap, sym, ◌∙◌, subst, All, List, [], ◌∷◌, length, length-append, arith}
use Rattle.hp_live.specs.declared.hotplug.Hotplug.{Hotplug}
use Rattle.hp_live.proofs.Sending.{left_send}
use Rattle.hp_live.proofs.Sharing.{hotplug_sync}
use Rattle.hp_threads.specs.declared.job.Job.{Job}
use Rattle.hp_threads.specs.declared.threads.ActorThread.TheVariants.{Started, Ran}
use Rattle.hp_threads.specs.Jobs.{CanAct, HasRun}
use Rattle.hp_threads.proofs.Captures.{captures_send}
use Rattle.hp_threads.proofs.Pairing.{all_last, acting_length, acting_one}
use Rattle.hp_threads.proofs.Sending.{job_send}
use Rattle.hp_threads.proofs.starting.+start_actors.Goals as goal

pub spawn_with-started-requires-send-F : goal.spawn_with-started-requires-send-F
spawn_with-started-requires-send-F g t c κs within =
    param_send 2 _ (arg_send _ no _ (captures_send _ _ _ _ _ (shr_send _ _ _ c.requires.bounds.1)
    (shr_send _ _ _ (hotplug_sync _ _ c.requires.bounds.0)) (shr_send _ _ _ c.requires.bounds.2)
    (job_send _ _ c.requires.bounds.0)))

pub spawn_with-started-requires-send-T : goal.spawn_with-started-requires-send-T
spawn_with-started-requires-send-T g t c κs within = param_send 3 _ (arg_send _ no _ (left_send _ _ c.requires.bounds.0))

pub spawn_with-started-requires-clause-runs : goal.spawn_with-started-requires-clause-runs
spawn_with-started-requires-clause-runs g t c κs within = (
  all_last (CanAct c.args.machine.now) c.pop.new.self.items c.in-Some.job
      (subst (λ (w : List (Job g.row.H.Denot)). All (CanAct c.args.machine.now) w) c.in-Some.ensures.items c.requires.jobs),
  (
    param_send 0 _ (arg_send _ no _ c.requires.bounds.0),
    param_sync 1 _ (arg_sync _ no _ c.requires.bounds.1),
    param_sync 2 _ (arg_sync _ no _ c.requires.bounds.2),
  ),
)

-- the closure that was refused has the job still
pub spawn_with-requires-after_bounds : goal.spawn_with-requires-after_bounds
spawn_with-requires-after_bounds g t c κs within =
    subst (λ (j : Job g.row.H.Denot). CanAct c.in-Err.refused.value.1.now j) (sym (ap (λ f. f.3) c.in-Err.ensures.err))
    (subst (λ (m : Hotplug g.row.H.Denot). CanAct m c.in-Some.job) (sym (ap (λ f. f.1.now) c.in-Err.ensures.err))
    (all_last (CanAct c.args.machine.now) c.pop.new.self.items c.in-Some.job
    (subst (λ (w : List (Job g.row.H.Denot)). All (CanAct c.args.machine.now) w) c.in-Some.ensures.items c.requires.jobs)))

pub start_actors-actors-requires-clause-room : goal.start_actors-actors-requires-clause-room
start_actors-actors-requires-clause-room g t c κs within =
    let all = ap (λ (w : List (Job g.row.H.Denot)). length w) c.in-Some.ensures.items in
    let one = length-append c.pop.new.self.items (c.in-Some.job ∷ []) in
    omega (arith, all, one, c.requires.room)

pub push_reserved-requires : goal.push_reserved-requires
push_reserved-requires g t c =
    let all = ap (λ (w : List (Job g.row.H.Denot)). length w) c.in-Some.ensures.items in
    let one = length-append c.pop.new.self.items (c.in-Some.job ∷ []) in
    let same = acting_length c.pop.new.self.items c.start_actors-actors.result.items c.start_actors-actors.ensures.acting in
    omega (arith, all, one, same, c.start_actors-actors.result.ok.0, c.start_actors-actors.ensures.places, c.requires.room)

pub push_reserved-requires-in-Err : goal.push_reserved-requires-in-Err
push_reserved-requires-in-Err g t c =
    let all = ap (λ (w : List (Job g.row.H.Denot)). length w) c.in-Some.ensures.items in
    let one = length-append c.pop.new.self.items (c.in-Some.job ∷ []) in
    let same = acting_length c.pop.new.self.items c.start_actors-actors.result.items c.start_actors-actors.ensures.acting in
    omega (arith, all, one, same, c.start_actors-actors.result.ok.0, c.start_actors-actors.ensures.places, c.requires.room)

pub returns-in-Ok-clause-acting : goal.returns-in-Ok-clause-acting
returns-in-Ok-clause-acting g t c =
    acting_one c.args.jobs.items c.pop.new.self.items c.start_actors-actors.result.items c.push_reserved.new.self.items c.in-Some.job
    (Started c.in-Ok.thread) c.in-Some.ensures.items c.push_reserved.ensures.items c.start_actors-actors.ensures.acting
    (ap (λ p. p.job.value) c.in-Ok.ensures.ok ∙ c.of.ensures)

pub returns-in-Err-clause-acting : goal.returns-in-Err-clause-acting
returns-in-Err-clause-acting g t c =
    acting_one c.args.jobs.items c.pop.new.self.items c.start_actors-actors.result.items c.push_reserved-in-Err.new.self.items
    c.in-Some.job (Ran c.spawn_with.result) c.in-Some.ensures.items c.push_reserved-in-Err.ensures.items
    c.start_actors-actors.ensures.acting
    (subst (λ (j : Job g.row.H.Denot). HasRun j c.spawn_with.result) (ap (λ f. f.3) c.in-Err.ensures.err) c.spawn_with.ensures)

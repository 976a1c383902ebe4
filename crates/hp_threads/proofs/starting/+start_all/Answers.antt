-- A thread for each, the last first.
use denote.Exit.{no}
use denote.Param.Send.{param_send, param_sync, arg_send, arg_sync, shr_send}
use Rattle.std.proofs.Common.{ap, ◌∙◌, subst, All, List, [], ◌∷◌, length, length-append, arith}
use Rattle.hp_live.specs.Known.{Seated}
use Rattle.hp_live.proofs.Sending.{parked_ap_send}
use Rattle.hp_live.proofs.Sharing.{hotplug_sync}
use Rattle.hp_threads.specs.declared.threads.ServerThread.TheVariants.{Started, Ran}
use Rattle.hp_threads.specs.Jobs.{CanServe, HasStayed}
use Rattle.hp_threads.proofs.Captures.{captures_send}
use Rattle.hp_threads.proofs.Pairing.{all_last, serving_length, serving_one}
use Rattle.hp_threads.proofs.starting.+start_all.Goals as goal

pub spawn_with-started-requires-send-F : goal.spawn_with-started-requires-send-F
spawn_with-started-requires-send-F g t c κs within =
    param_send 2 _ (arg_send _ no _ (captures_send _ _ _ _ _ (shr_send _ _ _ c.requires.bounds.1)
    (shr_send _ _ _ (hotplug_sync _ _ c.requires.bounds.0)) (shr_send _ _ _ c.requires.bounds.2)
    (parked_ap_send _ _ c.requires.bounds.0)))

pub spawn_with-started-requires-send-T : goal.spawn_with-started-requires-send-T
spawn_with-started-requires-send-T g t c κs within = param_send 3 _ (arg_send _ no _ (parked_ap_send _ _ c.requires.bounds.0))

pub spawn_with-started-requires-clause-runs : goal.spawn_with-started-requires-clause-runs
spawn_with-started-requires-clause-runs g t c κs within = (
  all_last (CanServe c.args.machine.now) c.pop.new.self.items c.in-Some.pass
      (subst (λ (w : List Seated). All (CanServe c.args.machine.now) w) c.in-Some.ensures.items c.requires.passes),
  (
    param_send 0 _ (arg_send _ no _ c.requires.bounds.0),
    param_sync 1 _ (arg_sync _ no _ c.requires.bounds.1),
    param_sync 2 _ (arg_sync _ no _ c.requires.bounds.2),
  ),
)

pub start_all-crew-requires-clause-for_servers : goal.start_all-crew-requires-clause-for_servers
start_all-crew-requires-clause-for_servers g t c κs within =
    let all = ap (λ (w : List Seated). length w) c.in-Some.ensures.items in
    let one = length-append c.pop.new.self.items (c.in-Some.pass ∷ []) in
    omega (arith, all, one, c.requires.for_servers)

pub push_reserved-requires : goal.push_reserved-requires
push_reserved-requires g t c =
    let all = ap (λ (w : List Seated). length w) c.in-Some.ensures.items in
    let one = length-append c.pop.new.self.items (c.in-Some.pass ∷ []) in
    let same = serving_length c.pop.new.self.items c.start_all-crew.result.servers.items c.start_all-crew.ensures.serving in
    omega (arith, all, one, same, c.start_all-crew.result.servers.ok.0, c.start_all-crew.ensures.places, c.requires.for_servers)

pub push_reserved-requires-in-Err : goal.push_reserved-requires-in-Err
push_reserved-requires-in-Err g t c =
    let all = ap (λ (w : List Seated). length w) c.in-Some.ensures.items in
    let one = length-append c.pop.new.self.items (c.in-Some.pass ∷ []) in
    let same = serving_length c.pop.new.self.items c.start_all-crew.result.servers.items c.start_all-crew.ensures.serving in
    omega (arith, all, one, same, c.start_all-crew.result.servers.ok.0, c.start_all-crew.ensures.places, c.requires.for_servers)

pub returns-in-Ok-clause-serving : goal.returns-in-Ok-clause-serving
returns-in-Ok-clause-serving g t c =
    serving_one c.args.passes.items c.pop.new.self.items c.start_all-crew.result.servers.items c.push_reserved.new.self.items
    c.in-Some.pass (Started c.in-Ok.thread) c.in-Some.ensures.items c.push_reserved.ensures.items c.start_all-crew.ensures.serving
    (ap (λ p. p.pass.value) c.in-Ok.ensures.ok ∙ c.of.ensures)

pub returns-in-Err-clause-serving : goal.returns-in-Err-clause-serving
returns-in-Err-clause-serving g t c =
    serving_one c.args.passes.items c.pop.new.self.items c.start_all-crew.result.servers.items c.push_reserved-in-Err.new.self.items
    c.in-Some.pass (Ran c.spawn_with.result) c.in-Some.ensures.items c.push_reserved-in-Err.ensures.items
    c.start_all-crew.ensures.serving
    (subst (λ (p : Seated). HasStayed p c.spawn_with.result) (ap (λ f. f.3) c.in-Err.ensures.err) c.spawn_with.ensures)

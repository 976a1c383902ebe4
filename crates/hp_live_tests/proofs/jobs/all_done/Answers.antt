-- Each job may go to its thread: it has the machine by `&`, and a parked pass.
use denote.Exit.{no}
use denote.Param.Send.{arg_send, param_send}
use denote.Enum.Declared as Choices
use denote.Param.Send
use denote.RattleType
use denote.Ref
use denote.Struct.Declared
use Rattle.std.proofs.option.Option.TheSendSync as Option'
use Rattle.hp_event.proofs.head.Head.TheSendSync as Head'
use Rattle.hp_hook.specs.declared.hook.Hook
use Rattle.hp_live.proofs.Sending.{parked_send, parked_ap_send}
use Rattle.hp_live.proofs.Sharing.{hotplug_sync}
use Rattle.hp_live_tests.proofs.jobs.Part.TheSendSync as Part'
use Rattle.hp_live_tests.specs.contracts.jobs.ApJob
use Rattle.hp_live_tests.specs.contracts.jobs.ClientJob
use Rattle.hp_live_tests.specs.contracts.jobs.Job
use Rattle.hp_live_tests.proofs.jobs.all_done.Goals as goal

module _ (T : RattleType.RattleType) where
  module _ (g : Hook.Ghosts T.Denot) where
    client_send : (κ : Ref.NamedLft) → Send.IsSend T → Send.IsSend (ClientJob.the_field κ T g).row
    client_send = λ κ s. Send.struct_send (Declared.shape (ClientJob.the_type κ T g)) (
      Send.shr_send _ _ _ (hotplug_sync T g s),
      (Send.shr_send _ _ _ Head'.the_sync, (parked_send T g s, (Part'.the_field_send, (Option'.the_field_send T s, tt)))),
    )

    ap_send : (κ : Ref.NamedLft) → Send.IsSend T → Send.IsSend (ApJob.the_field κ T g).row
    ap_send = λ κ s. Send.struct_send (Declared.shape (ApJob.the_type κ T g)) (Send.shr_send _ _ _ (hotplug_sync T g s), (parked_ap_send T g s, tt))

    job_send : (κ : Ref.NamedLft) → Send.IsSend T → Send.IsSend (Job.the_row κ T g)
    job_send = λ κ s. Send.recorded_send (Job.the_field κ T g).row _ _ (Job.the_type κ T g).to_one
        (Send.enum_send (Choices.shape (Job.the_type κ T g)) ((client_send κ s, tt), ((ap_send κ s, tt), tt)))

pub map_vec-requires-send-J : goal.map_vec-requires-send-J
map_vec-requires-send-J g c κs within = param_send 1 _ (arg_send _ no _ (job_send _ _ _ c.type_bounds.send-H))

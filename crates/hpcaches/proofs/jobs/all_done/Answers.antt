-- Each job may go to its thread: it has the machine by `&`, and a parked pass.
use denote.Exit.{no}
use denote.Param.Send.{arg_send, param_send}
use denote.Enum.Declared as Choices
use denote.Param.Send
use denote.RattleType
use denote.Ref
use denote.Struct.Declared
use Rattle.hp_hook.specs.declared.hook.Hook
use Rattle.hp_live.proofs.Sending.{parked_send, parked_ap_send}
use Rattle.hp_live.proofs.Sharing.{hotplug_sync}
use Rattle.hpcaches.specs.contracts.admin.Admin
use Rattle.hpcaches.specs.contracts.jobs.Job
use Rattle.hpcaches.specs.contracts.server.Server
use Rattle.hpcaches.specs.contracts.worker.Worker
use Rattle.hpcaches.proofs.jobs.all_done.Goals as goal

module _ (T : RattleType.RattleType) where
  module _ (g : Hook.Ghosts T.Denot) where
    server_send : (κ : Ref.NamedLft) → Send.IsSend T → Send.IsSend (Server.the_field κ T g).row
    server_send = λ κ s. Send.struct_send (Declared.shape (Server.the_type κ T g)) (Send.shr_send _ _ _ (hotplug_sync T g s), (parked_ap_send T g s, tt))

    admin_send : (κ : Ref.NamedLft) → Send.IsSend T → Send.IsSend (Admin.the_field κ T g).row
    admin_send = λ κ s. Send.struct_send (Declared.shape (Admin.the_type κ T g)) (Send.shr_send _ _ _ (hotplug_sync T g s), (parked_send T g s, (s, tt)))

    worker_send : (κ : Ref.NamedLft) → Send.IsSend T → Send.IsSend (Worker.the_field κ T g).row
    worker_send = λ κ s. Send.struct_send (Declared.shape (Worker.the_type κ T g)) (
      Send.shr_send _ _ _ (hotplug_sync T g s),
      (parked_send T g s, (Send.plain_send _ _ _ _ _, tt)),
    )

    job_send : (κ : Ref.NamedLft) → Send.IsSend T → Send.IsSend (Job.the_row κ T g)
    job_send = λ κ s. Send.recorded_send (Job.the_field κ T g).row _ _ (Job.the_type κ T g).to_one
        (Send.enum_send (Choices.shape (Job.the_type κ T g)) ((server_send κ s, tt), ((admin_send κ s, tt), ((worker_send κ s, tt), tt))))

pub map_vec-requires-send-J : goal.map_vec-requires-send-J
map_vec-requires-send-J g c κs within = param_send 1 _ (arg_send _ no _ (job_send _ _ _ c.type_bounds.send-H))

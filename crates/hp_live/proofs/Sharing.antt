-- Threads share the machine by `&`: it is `Sync` where its hooks are `Send`.
use denote.RattleType.{RattleType}
use denote.Param.Send.{IsSend, IsSync, struct_sync, recorded_sync}
use denote.Struct.Declared as Declared
use Rattle.hp_hook.specs.declared.hook.Hook as Hook
use Rattle.hp_live.specs.contracts.hotplug.Hotplug as Hotplug
use Rattle.hp_live.specs.contracts.live.Live as Live
use Rattle.hp_live.specs.contracts.live.LiveGrown.TheImpl as grown
use Rattle.hp_live.proofs.Sending.{live_send}
use Rattle.hp_live.proofs.wakes.Wakes.TheSendSync as wakes
use Rattle.hp_turn.proofs.parts.TurnLock.TheSendSync as lock

pub hotplug_sync : (T : RattleType) (g : Hook.Ghosts T.Denot) → IsSend T → IsSync (Hotplug.the_row T g)
hotplug_sync T g s =
    recorded_sync (Hotplug.the_field T g).row _ _ (Hotplug.the_type T g).to_one
    (struct_sync (Declared.shape (Hotplug.the_type T g)) (
      lock.the_field_sync (Live.the_row T g) (grown.ghosts T g grown.no_dict grown.no_dict) (live_send T g s),
      (wakes.the_field_sync, tt),
    ))

use denote.Exit.{no}
use denote.Param.Send.{param_send, arg_send}
use Rattle.hp_live.proofs.Sending.{live_send}
use Rattle.hp_live.proofs.start.begin.Goals as goal

pub new-requires-2-send-V : goal.new-requires-2-send-V
new-requires-2-send-V g c κs within = param_send 0 _ (arg_send _ no _ (live_send _ _ c.type_bounds.send-H))

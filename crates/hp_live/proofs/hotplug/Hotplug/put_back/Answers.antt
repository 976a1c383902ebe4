-- The board goes back, with what its seat added.
use denote.Exit.{no}
use denote.Param.Send.{param_send, arg_send}
use Rattle.hp_live.proofs.Sending.{live_send}
use Rattle.std.proofs.Common.{sym, ◌∙◌}
use Rattle.hp_live.proofs.Finding.{may_put_back, room, lent_then, nothing_then, sight_put}
use Rattle.hp_live.proofs.hotplug.Hotplug.put_back.Goals as goal

pub unlock-requires-clause-head : goal.unlock-requires-clause-head
unlock-requires-clause-head g c κs within = c.requires.put.head_is

pub unlock-requires-clause-story : goal.unlock-requires-clause-story
unlock-requires-clause-story g c κs within = may_put_back c.args.pass.now c.args.live.board c.requires.put c.sound.ensures.lawful

pub unlock-requires-clause-room : goal.unlock-requires-clause-room
unlock-requires-clause-room g c κs within = room c.args.live.board.head c.args.live.board.events c.sound.ensures.lawful

pub returns-clause-put : goal.returns-clause-put
returns-clause-put g c =
    record {
      lock = c.unlock.ensures.freed.0 ∙ sym c.requires.own;
      head = c.unlock.ensures.head;
      seat = c.unlock.ensures.seat;
      admits = c.unlock.ensures.right;
      misses = c.unlock.ensures.misses;
      seen = record { front_is = c.unlock.ensures.front; kept_is = c.unlock.ensures.kept };
      lent = λ k own. lent_then c.unlock.new.pass c.args.live.board k c.unlock.ensures.aside c.sound.ensures.lawful own;
      nothing = λ own. nothing_then c.unlock.new.pass c.args.live.board c.unlock.ensures.aside own;
    }

pub returns-clause-sight : goal.returns-clause-sight
returns-clause-sight g c =
    sight_put c.unlock.new.pass c.args.live.board c.length-seen.result (c.unlock.ensures.head ∙ sym c.requires.put.head_is)
    c.unlock.ensures.front c.unlock.ensures.freed.1 c.length-seen.ensures c.sound.ensures.lawful

pub unlock-requires-send-V : goal.unlock-requires-send-V
unlock-requires-send-V g c κs within = param_send 0 _ (arg_send _ no _ (live_send _ _ c.type_bounds.send-H))

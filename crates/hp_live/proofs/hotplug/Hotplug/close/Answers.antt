-- The lock is closed, and its board handed out: where every seat has left nothing is lent.
use denote.Exit.{no}
use denote.Param.Send.{param_send, arg_send}
use Rattle.std.proofs.Common.{None, true, subst}
use Rattle.hp_turn.specs.Pass.{Pass, Knew}
use Rattle.hp_turn.specs.Story.{Knows}
use Rattle.hp_live.specs.Known.{Known}
use Rattle.hp_live.proofs.AllLeft.{home_at_end, root_knows}
use Rattle.hp_live.proofs.Sending.{live_send}
use Rattle.hp_live.proofs.hotplug.Hotplug.close.Goals as goal

pub close-board-requires-send-V : goal.close-board-requires-send-V
close-board-requires-send-V g c κs within = param_send 0 _ (arg_send _ no _ (live_send _ _ c.type_bounds.send-H))

pub returns-clause-home : goal.returns-clause-home
returns-clause-home g c = λ none.
    let board = c.close-board.result.board in
    let knew = subst (λ (p : Pass). Knew p board.events) c.sight.view_is c.close-board.ensures.knew.1 in
    let knows =
    subst (λ (r : Known). Knows None true r.front board.events) c.root.view_is
    (root_knows c.root.inside.sight board.events c.root.invariant knew) in
    home_at_end board c.args.root.front c.sound.ensures.lawful c.sound.ensures.out knows none

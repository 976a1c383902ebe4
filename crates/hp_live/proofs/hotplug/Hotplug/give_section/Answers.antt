-- A section in which a hook comes home.
use denote.Exit.{no}
use denote.Param.Send.{param_send, arg_send}
use Rattle.hp_live.proofs.Sending.{live_send}
use Rattle.std.proofs.Common.{◌∙◌}
use Rattle.hp_live.specs.Steps.{Finds}
use Rattle.hp_live.proofs.Finding.{is_board, finds, inside_held, seat_held, lent_found, still_given}
use Rattle.hp_live.proofs.hotplug.Hotplug.give_section.Given as given
use Rattle.hp_live.proofs.hotplug.Hotplug.give_section.Goals as goal
use Rattle.hp_live.proofs.hotplug.Hotplug.give_section.Goals.{After-sound}

found : (g : given.Over) (c : After-sound g) → Finds c.args.sight.now c.lock-live.result.board
found g c =
    finds c.args.sight.now c.sight.inside.turn c.lock-live.result.board c.sight.view_is c.lock-live.ensures.head
    c.lock-live.ensures.knew c.lock-live.ensures.lent
    (is_board c.lock-live.result.board c.sound.ensures.lawful c.sound.ensures.table c.sound.ensures.out)

pub give_held-at-requires-clause-inside : goal.give_held-at-requires-clause-inside
give_held-at-requires-clause-inside g c κs within =
    inside_held c.sight.inside.turn c.lock-live.new.pass c.lock-live.result.board c.lock-live.ensures.same
    c.lock-live.ensures.took c.lock-live.ensures.head

pub give_held-at-requires-clause-seat : goal.give_held-at-requires-clause-seat
give_held-at-requires-clause-seat g c κs within =
    seat_held c.args.sight.now c.sight.inside.turn c.lock-live.new.pass c.args.seat c.sight.view_is c.lock-live.ensures.same
    c.requires.seat

pub give_held-at-requires-clause-lent : goal.give_held-at-requires-clause-lent
give_held-at-requires-clause-lent g c κs within =
    lent_found c.args.sight.now c.args.seat c.lock-live.result.board
    (found g (goal.at.give_held-at-requires-clause-lent g c).After-sound) c.requires.seat ∙ c.requires.lent

pub returns-clause-still : goal.returns-clause-still
returns-clause-still g c =
    still_given c.args.sight.now c.sight.inside.turn c.lock-live.new.pass c.give_held-at.new.pass c.sight.view_is
    c.lock-live.ensures.same c.give_held-at.ensures.still

pub returns-clause-gives : goal.returns-clause-gives
returns-clause-gives g c =
    record {
      found = c.lock-live.result.board;
      finds = found g (goal.at.returns-clause-gives g c).After-sound;
      to = c.give_held-at.ensures.gives;
    }

pub lock-live-requires-send-V : goal.lock-live-requires-send-V
lock-live-requires-send-V g c κs within = param_send 0 _ (arg_send _ no _ (live_send _ _ c.type_bounds.send-H))

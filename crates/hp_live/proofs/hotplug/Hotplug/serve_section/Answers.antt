-- A section of a thread's seat: the lock gives the board, a step is made, and the board goes back.
use denote.Exit.{no}
use denote.Param.Send.{param_send, arg_send}
use Rattle.hp_live.proofs.Sending.{live_send}
use Rattle.std.proofs.Common.{◌∙◌}
use Rattle.hp_live.specs.Steps.{Finds}
use Rattle.hp_live.proofs.Finding.{is_board, finds, inside_held, seat_held, lent_found, still_given}
use Rattle.hp_live.proofs.hotplug.Hotplug.serve_section.Given as given
use Rattle.hp_live.proofs.hotplug.Hotplug.serve_section.Goals as goal
use Rattle.hp_live.proofs.hotplug.Hotplug.serve_section.Goals.{After-sound}

found : (g : given.Over) (c : After-sound g) → Finds c.args.sight.now c.lock-live.result.board
found g c =
    finds c.args.sight.now c.sight.inside.turn c.lock-live.result.board c.sight.view_is c.lock-live.ensures.head
    c.lock-live.ensures.knew c.lock-live.ensures.lent
    (is_board c.lock-live.result.board c.sound.ensures.lawful c.sound.ensures.table c.sound.ensures.out)

pub serve_held-step-requires-clause-inside : goal.serve_held-step-requires-clause-inside
serve_held-step-requires-clause-inside g c κs within =
    inside_held c.sight.inside.turn c.lock-live.new.pass c.lock-live.result.board c.lock-live.ensures.same
    c.lock-live.ensures.took c.lock-live.ensures.head

pub serve_held-step-requires-clause-seat : goal.serve_held-step-requires-clause-seat
serve_held-step-requires-clause-seat g c κs within =
    seat_held c.args.sight.now c.sight.inside.turn c.lock-live.new.pass c.args.seat c.sight.view_is c.lock-live.ensures.same
    c.requires.seat

pub serve_held-step-requires-clause-nothing : goal.serve_held-step-requires-clause-nothing
serve_held-step-requires-clause-nothing g c κs within =
    lent_found c.args.sight.now c.args.seat c.lock-live.result.board
    (found g (goal.at.serve_held-step-requires-clause-nothing g c).After-sound) c.requires.seat ∙ c.requires.nothing

pub returns-clause-still : goal.returns-clause-still
returns-clause-still g c =
    still_given c.args.sight.now c.sight.inside.turn c.lock-live.new.pass c.serve_held-step.new.pass c.sight.view_is
    c.lock-live.ensures.same c.serve_held-step.ensures.still

pub returns-clause-serves : goal.returns-clause-serves
returns-clause-serves g c =
    record {
      found = c.lock-live.result.board;
      finds = found g (goal.at.returns-clause-serves g c).After-sound;
      to = c.serve_held-step.ensures.serves;
    }

pub lock-live-requires-send-V : goal.lock-live-requires-send-V
lock-live-requires-send-V g c κs within = param_send 0 _ (arg_send _ no _ (live_send _ _ c.type_bounds.send-H))

-- A section of a client's seat: the lock gives the board, a step is made, and the board goes back.
use denote.Exit.{no}
use denote.Param.Send.{param_send, arg_send}
use Rattle.hp_live.proofs.Sending.{live_send}
use Rattle.std.proofs.Common.{◌∙◌, is_some}
use Rattle.hp_live.specs.Steps.{Finds}
use Rattle.hp_live.proofs.Finding.{is_board, finds, inside_held, seat_held, lent_found, still_given}
use Rattle.hp_live.proofs.Turning.{asks_found}
use Rattle.hp_live.proofs.hotplug.Hotplug.turn_section.Given as given
use Rattle.hp_live.proofs.hotplug.Hotplug.turn_section.Goals as goal
use Rattle.hp_live.proofs.hotplug.Hotplug.turn_section.Goals.{After-sound}

found : (g : given.Over) (c : After-sound g) → Finds c.args.sight.now c.lock-live.result.board
found g c =
    finds c.args.sight.now c.sight.inside.turn c.lock-live.result.board c.sight.view_is c.lock-live.ensures.head
    c.lock-live.ensures.knew c.lock-live.ensures.lent
    (is_board c.lock-live.result.board c.sound.ensures.lawful c.sound.ensures.table c.sound.ensures.out)

pub turn_held-step-requires-clause-inside : goal.turn_held-step-requires-clause-inside
turn_held-step-requires-clause-inside g c κs within =
    inside_held c.sight.inside.turn c.lock-live.new.pass c.lock-live.result.board c.lock-live.ensures.same
    c.lock-live.ensures.took c.lock-live.ensures.head

pub turn_held-step-requires-clause-seat : goal.turn_held-step-requires-clause-seat
turn_held-step-requires-clause-seat g c κs within =
    seat_held c.args.sight.now c.sight.inside.turn c.lock-live.new.pass c.args.seat c.sight.view_is c.lock-live.ensures.same
    c.requires.seat

pub turn_held-step-requires-clause-nothing : goal.turn_held-step-requires-clause-nothing
turn_held-step-requires-clause-nothing g c κs within =
    lent_found c.args.sight.now c.args.seat c.lock-live.result.board
    (found g (goal.at.turn_held-step-requires-clause-nothing g c).After-sound) c.requires.seat ∙ c.requires.nothing

pub turn_held-step-requires-clause-asked : goal.turn_held-step-requires-clause-asked
turn_held-step-requires-clause-asked g c κs within =
    asks_found c.args.sight.now c.args.seat c.args.ask.now.op (is_some c.args.ask.now.hook) c.lock-live.result.board
    (found g (goal.at.turn_held-step-requires-clause-asked g c).After-sound) c.requires.seat c.requires.asked

pub returns-clause-still : goal.returns-clause-still
returns-clause-still g c =
    still_given c.args.sight.now c.sight.inside.turn c.lock-live.new.pass c.turn_held-step.new.pass c.sight.view_is
    c.lock-live.ensures.same c.turn_held-step.ensures.still

pub returns-clause-steps : goal.returns-clause-steps
returns-clause-steps g c =
    let at = (goal.at.returns-clause-steps g c).After-sound in
    record {
      found = c.lock-live.result.board;
      finds = found g at;
      asked =
          asks_found c.args.sight.now c.args.seat c.args.ask.now.op (is_some c.args.ask.now.hook) c.lock-live.result.board
          (found g at) c.requires.seat c.requires.asked;
      to = c.turn_held-step.ensures.steps;
      ask = c.turn_held-step.ensures.ask;
    }

pub lock-live-requires-send-V : goal.lock-live-requires-send-V
lock-live-requires-send-V g c κs within = param_send 0 _ (arg_send _ no _ (live_send _ _ c.type_bounds.send-H))

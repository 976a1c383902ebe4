-- One try of a section of a client's seat: the board that the lock gives, and what is so of the pass when it is back.
use denote.Exit.{no}
use denote.Param.Send.{param_send, arg_send}
use Rattle.hp_live.proofs.Sending.{live_send}
use Rattle.std.proofs.Common.{ap, ◌∙◌, is_some}
use Rattle.hp_turn.specs.Pass.{Pass}
use Rattle.hp_live.specs.Steps.{Finds}
use Rattle.hp_live.proofs.Finding.{is_board, finds, lent_found, still_given}
use Rattle.hp_live.proofs.Trying.{step_tried}
use Rattle.hp_live.proofs.Turning.{asks_found}
use Rattle.hp_live.proofs.hotplug.Hotplug.try_turn_section.Given as given
use Rattle.hp_live.proofs.hotplug.Hotplug.try_turn_section.Goals as goal
use Rattle.hp_live.proofs.hotplug.Hotplug.try_turn_section.Goals.{After-sound}

found : (g : given.Over) (c : After-sound g) → Finds c.args.sight.now c.in-Ok.live.board
found g c =
    finds c.args.sight.now c.sight.inside.turn c.in-Ok.live.board c.sight.view_is c.in-Ok.ensures.head c.in-Ok.ensures.knew
    c.in-Ok.ensures.lent (is_board c.in-Ok.live.board c.sound.ensures.lawful c.sound.ensures.table c.sound.ensures.out)

pub try_lock-requires-send-V : goal.try_lock-requires-send-V
try_lock-requires-send-V g c κs within = param_send 0 _ (arg_send _ no _ (live_send _ _ c.type_bounds.send-H))

pub turn_held-step-requires-clause-nothing : goal.turn_held-step-requires-clause-nothing
turn_held-step-requires-clause-nothing g c κs within =
    lent_found c.args.sight.now c.args.seat c.in-Ok.live.board
    (found g (goal.at.turn_held-step-requires-clause-nothing g c).After-sound) c.requires.seat ∙ c.requires.nothing

pub turn_held-step-requires-clause-asked : goal.turn_held-step-requires-clause-asked
turn_held-step-requires-clause-asked g c κs within =
    asks_found c.args.sight.now c.args.seat c.args.ask.now.op (is_some c.args.ask.now.hook) c.in-Ok.live.board
    (found g (goal.at.turn_held-step-requires-clause-asked g c).After-sound) c.requires.seat c.requires.asked

pub returns-clause-stepped : goal.returns-clause-stepped
returns-clause-stepped g c =
    let e = c.turn_held-step.ensures in
    let board = found g (goal.at.returns-clause-stepped g c).After-sound in
    step_tried g.H.Hook.counts c.args.sight.now c.try_lock.new.pass c.turn_held-step.new.pass c.args.seat c.args.ask.now c.turn_held-step.new.ask
    c.in-Ok.live.board c.turn_held-step.result.0 c.requires.seat board c.requires.nothing
    (c.in-Ok.ensures.kept ∙ ap (λ (p : Pass). p.misses) c.sight.view_is)
    (still_given c.args.sight.now c.sight.inside.turn c.try_lock.new.pass c.turn_held-step.new.pass c.sight.view_is
    c.in-Ok.ensures.same e.still)
    e.keeps e.others
    (asks_found c.args.sight.now c.args.seat c.args.ask.now.op (is_some c.args.ask.now.hook) c.in-Ok.live.board board c.requires.seat
    c.requires.asked)
    e.steps e.waits e.ask e.op e.lent

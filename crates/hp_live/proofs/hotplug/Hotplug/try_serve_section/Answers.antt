-- One try of a section of a thread's seat: the board that the lock gives, and what is so of the pass when it is back.
use denote.Exit.{no}
use denote.Param.Send.{param_send, arg_send}
use Rattle.hp_live.proofs.Sending.{live_send}
use Rattle.std.proofs.Common.{ap, ◌∙◌}
use Rattle.hp_turn.specs.Pass.{Pass}
use Rattle.hp_live.specs.Steps.{Finds}
use Rattle.hp_live.proofs.Finding.{is_board, finds, lent_found, still_given}
use Rattle.hp_live.proofs.Trying.{service_tried}
use Rattle.hp_live.proofs.hotplug.Hotplug.try_serve_section.Given as given
use Rattle.hp_live.proofs.hotplug.Hotplug.try_serve_section.Goals as goal
use Rattle.hp_live.proofs.hotplug.Hotplug.try_serve_section.Goals.{After-sound}

found : (g : given.Over) (c : After-sound g) → Finds c.args.sight.now c.in-Ok.live.board
found g c =
    finds c.args.sight.now c.sight.inside.turn c.in-Ok.live.board c.sight.view_is c.in-Ok.ensures.head c.in-Ok.ensures.knew
    c.in-Ok.ensures.lent (is_board c.in-Ok.live.board c.sound.ensures.lawful c.sound.ensures.table c.sound.ensures.out)

pub try_lock-requires-send-V : goal.try_lock-requires-send-V
try_lock-requires-send-V g c κs within = param_send 0 _ (arg_send _ no _ (live_send _ _ c.type_bounds.send-H))

pub serve_held-step-requires-clause-nothing : goal.serve_held-step-requires-clause-nothing
serve_held-step-requires-clause-nothing g c κs within =
    lent_found c.args.sight.now c.args.seat c.in-Ok.live.board
    (found g (goal.at.serve_held-step-requires-clause-nothing g c).After-sound) c.requires.seat ∙ c.requires.nothing

pub returns-clause-served : goal.returns-clause-served
returns-clause-served g c =
    let e = c.serve_held-step.ensures in
    service_tried c.args.sight.now c.try_lock.new.pass c.serve_held-step.new.pass c.args.seat c.in-Ok.live.board
    c.serve_held-step.result.0 c.requires.seat (found g (goal.at.returns-clause-served g c).After-sound) c.requires.nothing
    (c.in-Ok.ensures.kept ∙ ap (λ (p : Pass). p.misses) c.sight.view_is)
    (still_given c.args.sight.now c.sight.inside.turn c.try_lock.new.pass c.serve_held-step.new.pass c.sight.view_is
    c.in-Ok.ensures.same e.still)
    e.keeps e.others e.serves e.waits e.lent

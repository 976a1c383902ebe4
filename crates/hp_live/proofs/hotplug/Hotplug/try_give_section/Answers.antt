-- One try of a section in which a hook comes home.
use denote.Exit.{no}
use denote.Param.Send.{param_send, arg_send}
use Rattle.hp_live.proofs.Sending.{live_send}
use Rattle.std.proofs.Common.{ap, ◌∙◌}
use Rattle.hp_turn.specs.Pass.{Pass}
use Rattle.hp_live.specs.Steps.{Finds}
use Rattle.hp_live.proofs.Finding.{is_board, finds, lent_found}
use Rattle.hp_live.proofs.Trying.{gave_back}
use Rattle.hp_live.proofs.hotplug.Hotplug.try_give_section.Given as given
use Rattle.hp_live.proofs.hotplug.Hotplug.try_give_section.Goals as goal
use Rattle.hp_live.proofs.hotplug.Hotplug.try_give_section.Goals.{After-sound}

found : (g : given.Over) (c : After-sound g) → Finds c.args.sight.now c.in-Ok.live.board
found g c =
    finds c.args.sight.now c.sight.inside.turn c.in-Ok.live.board c.sight.view_is c.in-Ok.ensures.head c.in-Ok.ensures.knew
    c.in-Ok.ensures.lent (is_board c.in-Ok.live.board c.sound.ensures.lawful c.sound.ensures.table c.sound.ensures.out)

pub try_lock-requires-send-V : goal.try_lock-requires-send-V
try_lock-requires-send-V g c κs within = param_send 0 _ (arg_send _ no _ (live_send _ _ c.type_bounds.send-H))

pub give_held-at-requires-clause-lent : goal.give_held-at-requires-clause-lent
give_held-at-requires-clause-lent g c κs within =
    lent_found c.args.sight.now c.args.seat c.in-Ok.live.board
    (found g (goal.at.give_held-at-requires-clause-lent g c).After-sound) c.requires.seat ∙ c.requires.lent

pub returns-clause-gives : goal.returns-clause-gives
returns-clause-gives g c =
    let e = c.give_held-at.ensures in
    let board = found g (goal.at.returns-clause-gives g c).After-sound in
    gave_back c.args.sight.now c.try_lock.new.pass c.give_held-at.new.pass c.args.seat c.give_held-at.result.0 c.in-Ok.live.board
    c.args.back c.requires.seat board c.requires.lent
    (lent_found c.args.sight.now c.args.seat c.in-Ok.live.board board c.requires.seat ∙ c.requires.lent) c.sound.ensures.loans
    (c.in-Ok.ensures.kept ∙ ap (λ (p : Pass). p.misses) c.sight.view_is) e.keeps e.gives e.nothing

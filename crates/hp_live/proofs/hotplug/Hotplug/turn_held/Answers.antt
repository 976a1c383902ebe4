-- A step of a client's seat on a board that its pass holds.
use Rattle.std.proofs.Common.{◌∙◌, ap, is_some}
use Rattle.hp_live.proofs.Finding.{Puts, can_put, still_put, lent_put}
use Rattle.hp_live.proofs.LentPairs.{others_kept}
use Rattle.hp_live.proofs.Trying.{keeps_put}
use Rattle.hp_live.proofs.Turning.{step_puts, step_head, step_lends}
use Rattle.hp_live.specs.Tries.{lent_beside}
use Rattle.hp_live.proofs.hotplug.Hotplug.turn_held.Given as given
use Rattle.hp_live.proofs.hotplug.Hotplug.turn_held.Goals as goal
use Rattle.hp_live.proofs.hotplug.Hotplug.turn_held.Goals.{After-lend_or_turn-step}

puts : (g : given.Over) (c : After-lend_or_turn-step g) →
    Puts c.args.seat c.args.live.board.events c.lend_or_turn-step.new.board.events
puts g c =
    step_puts c.args.seat c.args.ask.now.op (is_some c.args.ask.now.hook) (is_some c.lend_or_turn-step.new.ask.hook)
    c.args.live.board c.lend_or_turn-step.new.board c.lend_or_turn-step.result c.sound.ensures.lawful c.requires.asked
    c.lend_or_turn-step.ensures.step

pub lend_or_turn-step-requires-clause-allowed : goal.lend_or_turn-step-requires-clause-allowed
lend_or_turn-step-requires-clause-allowed g c = c.requires.asked.allowed

pub lend_or_turn-step-requires-clause-hook : goal.lend_or_turn-step-requires-clause-hook
lend_or_turn-step-requires-clause-hook g c = c.requires.asked.hook_is

pub put_back-seen-requires-clause-put : goal.put_back-seen-requires-clause-put
put_back-seen-requires-clause-put g c κs within =
    can_put c.args.pass.now c.args.seat c.args.live.board c.lend_or_turn-step.new.board c.requires.seat c.requires.inside
    c.sound.ensures.lawful
    (step_head c.args.seat c.args.ask.now.op (is_some c.args.ask.now.hook) (is_some c.lend_or_turn-step.new.ask.hook)
    c.args.live.board c.lend_or_turn-step.new.board c.lend_or_turn-step.result c.lend_or_turn-step.ensures.step)
    (puts g (goal.at.put_back-seen-requires-clause-put g c).After-lend_or_turn-step) c.lend_or_turn-step.ensures.others

pub returns-clause-still : goal.returns-clause-still
returns-clause-still g c =
    still_put c.args.pass.now c.put_back-seen.new.pass c.args.seat c.args.live.board c.lend_or_turn-step.new.board c.requires.seat
    c.requires.inside (puts g (goal.at.returns-clause-still g c).After-lend_or_turn-step) c.put_back-seen.ensures.put

pub returns-clause-steps : goal.returns-clause-steps
returns-clause-steps g c =
    record {
      new = c.lend_or_turn-step.new.board;
      steps = c.lend_or_turn-step.ensures.step;
      seen = c.put_back-seen.ensures.put.seen;
    }

pub returns-clause-lent : goal.returns-clause-lent
returns-clause-lent g c =
    lent_put c.args.pass.now c.put_back-seen.new.pass c.args.seat c.args.live.board c.lend_or_turn-step.new.board c.requires.seat
    c.requires.inside (puts g (goal.at.returns-clause-lent g c).After-lend_or_turn-step) c.put_back-seen.ensures.put
    ∙ step_lends c.args.seat c.args.ask.now.op (is_some c.args.ask.now.hook) (is_some c.lend_or_turn-step.new.ask.hook)
    c.args.live.board c.lend_or_turn-step.new.board c.lend_or_turn-step.result c.requires.nothing c.lend_or_turn-step.ensures.step

pub returns-clause-keeps : goal.returns-clause-keeps
returns-clause-keeps g c =
    keeps_put c.args.pass.now c.put_back-seen.new.pass c.args.seat c.put_back-seen.result c.args.live.board
    c.lend_or_turn-step.new.board c.requires.seat c.requires.inside
    (puts g (goal.at.returns-clause-keeps g c).After-lend_or_turn-step)
    (step_head c.args.seat c.args.ask.now.op (is_some c.args.ask.now.hook) (is_some c.lend_or_turn-step.new.ask.hook)
    c.args.live.board c.lend_or_turn-step.new.board c.lend_or_turn-step.result c.lend_or_turn-step.ensures.step)
    c.put_back-seen.ensures.put c.put_back-seen.ensures.sight c.put_back-seen.ensures.loans

pub returns-clause-others : goal.returns-clause-others
returns-clause-others g c =
    ap (lent_beside c.args.seat) c.put_back-seen.ensures.put.seen.kept_is
    ∙ others_kept c.args.seat c.args.live.board c.lend_or_turn-step.new.board
    (puts g (goal.at.returns-clause-others g c).After-lend_or_turn-step) c.lend_or_turn-step.ensures.others c.requires.nothing

-- A step of a thread's seat on a board that its pass holds.
use Rattle.std.proofs.Common.{sym, ap, ◌∙◌, List}
use Rattle.hp_event.specs.declared.event.Event.{Event}
use Rattle.hp_machine.specs.Clients.{clients}
use Rattle.hp_live.proofs.Finding.{Puts, can_put, still_put, lent_put}
use Rattle.hp_live.proofs.Entries.{serve_puts, serve_head, serve_lends}
use Rattle.hp_live.proofs.LentPairs.{others_kept}
use Rattle.hp_live.proofs.Trying.{keeps_put}
use Rattle.hp_live.specs.Tries.{lent_beside}
use Rattle.hp_live.proofs.hotplug.Hotplug.serve_held.Given as given
use Rattle.hp_live.proofs.hotplug.Hotplug.serve_held.Goals as goal
use Rattle.hp_live.proofs.hotplug.Hotplug.serve_held.Goals.{After-lend_or_serve-step}

puts : (g : given.Over) (c : After-lend_or_serve-step g) →
    Puts c.args.seat c.args.live.board.events c.lend_or_serve-step.new.board.events
puts g c =
    serve_puts c.args.seat c.args.live.board c.lend_or_serve-step.new.board c.lend_or_serve-step.result
    c.lend_or_serve-step.ensures.step

pub put_back-seen-requires-clause-put : goal.put_back-seen-requires-clause-put
put_back-seen-requires-clause-put g c κs within =
    can_put c.args.pass.now c.args.seat c.args.live.board c.lend_or_serve-step.new.board c.requires.seat c.requires.inside
    c.sound.ensures.lawful
    (serve_head c.args.seat c.args.live.board c.lend_or_serve-step.new.board c.lend_or_serve-step.result
    c.lend_or_serve-step.ensures.step)
    (puts g (goal.at.put_back-seen-requires-clause-put g c).After-lend_or_serve-step) c.lend_or_serve-step.ensures.others

pub returns-clause-still : goal.returns-clause-still
returns-clause-still g c =
    still_put c.args.pass.now c.put_back-seen.new.pass c.args.seat c.args.live.board c.lend_or_serve-step.new.board c.requires.seat
    c.requires.inside (puts g (goal.at.returns-clause-still g c).After-lend_or_serve-step) c.put_back-seen.ensures.put

pub returns-clause-serves : goal.returns-clause-serves
returns-clause-serves g c =
    record {
      new = c.lend_or_serve-step.new.board;
      serves = c.lend_or_serve-step.ensures.step;
      seen = c.put_back-seen.ensures.put.seen;
    }

pub returns-clause-lent : goal.returns-clause-lent
returns-clause-lent g c =
    lent_put c.args.pass.now c.put_back-seen.new.pass c.args.seat c.args.live.board c.lend_or_serve-step.new.board c.requires.seat
    c.requires.inside (puts g (goal.at.returns-clause-lent g c).After-lend_or_serve-step) c.put_back-seen.ensures.put
    ∙ serve_lends c.args.seat c.args.live.board c.lend_or_serve-step.new.board c.lend_or_serve-step.result
    c.lend_or_serve-step.ensures.step

pub returns-clause-clients : goal.returns-clause-clients
returns-clause-clients g c =
    c.clients-count.ensures ∙ sym (ap (λ (w : List Event). clients w) c.put_back-seen.ensures.put.seen.front_is)

pub returns-clause-keeps : goal.returns-clause-keeps
returns-clause-keeps g c =
    keeps_put c.args.pass.now c.put_back-seen.new.pass c.args.seat c.put_back-seen.result c.args.live.board
    c.lend_or_serve-step.new.board c.requires.seat c.requires.inside
    (puts g (goal.at.returns-clause-keeps g c).After-lend_or_serve-step)
    (serve_head c.args.seat c.args.live.board c.lend_or_serve-step.new.board c.lend_or_serve-step.result
    c.lend_or_serve-step.ensures.step)
    c.put_back-seen.ensures.put c.put_back-seen.ensures.sight c.put_back-seen.ensures.loans

pub returns-clause-others : goal.returns-clause-others
returns-clause-others g c =
    ap (lent_beside c.args.seat) c.put_back-seen.ensures.put.seen.kept_is
    ∙ others_kept c.args.seat c.args.live.board c.lend_or_serve-step.new.board
    (puts g (goal.at.returns-clause-others g c).After-lend_or_serve-step) c.lend_or_serve-step.ensures.others c.requires.nothing

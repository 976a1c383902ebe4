-- A hook comes home to a board that the seat's pass holds.
use Rattle.std.proofs.Common.{ap, ◌∙◌}
use Rattle.hp_board.specs.Contents.{Contents}
use Rattle.hp_live.proofs.Finding.{Puts, puts_one, can_put, still_put, lent_put}
use Rattle.hp_live.proofs.Trying.{keeps_put}
use Rattle.hp_live.proofs.Turning.{own_due}
use Rattle.hp_live.proofs.hotplug.Hotplug.give_held.Given as given
use Rattle.hp_live.proofs.hotplug.Hotplug.give_held.Goals as goal
use Rattle.hp_live.proofs.hotplug.Hotplug.give_held.Goals.{After-give-at}

puts : (g : given.Over) (c : After-give-at g) → Puts c.args.seat c.args.live.board.events c.give-at.new.self.events
puts g c =
    let m = c.give-at.ensures.served in
    puts_one c.args.seat c.args.live.board.events c.give-at.new.self.events m.event (ap (λ (b : Contents). b.events) m.new_is)
    (own_due c.args.live.board.head c.args.live.board.events c.args.seat m.event m.next_is)

pub put_back-seen-requires-clause-put : goal.put_back-seen-requires-clause-put
put_back-seen-requires-clause-put g c κs within =
    can_put c.args.pass.now c.args.seat c.args.live.board c.give-at.new.self c.requires.seat c.requires.inside
    c.sound.ensures.lawful (ap (λ (b : Contents). b.head) c.give-at.ensures.served.new_is)
    (puts g (goal.at.put_back-seen-requires-clause-put g c).After-give-at) c.give-at.ensures.stays

pub returns-clause-still : goal.returns-clause-still
returns-clause-still g c =
    still_put c.args.pass.now c.put_back-seen.new.pass c.args.seat c.args.live.board c.give-at.new.self c.requires.seat
    c.requires.inside (puts g (goal.at.returns-clause-still g c).After-give-at) c.put_back-seen.ensures.put

pub returns-clause-gives : goal.returns-clause-gives
returns-clause-gives g c =
    record { new = c.give-at.new.self; served = c.give-at.ensures.served; seen = c.put_back-seen.ensures.put.seen }

pub returns-clause-nothing : goal.returns-clause-nothing
returns-clause-nothing g c =
    lent_put c.args.pass.now c.put_back-seen.new.pass c.args.seat c.args.live.board c.give-at.new.self c.requires.seat
    c.requires.inside (puts g (goal.at.returns-clause-nothing g c).After-give-at) c.put_back-seen.ensures.put
    ∙ c.give-at.ensures.home

pub returns-clause-keeps : goal.returns-clause-keeps
returns-clause-keeps g c =
    keeps_put c.args.pass.now c.put_back-seen.new.pass c.args.seat c.put_back-seen.result c.args.live.board c.give-at.new.self
    c.requires.seat c.requires.inside (puts g (goal.at.returns-clause-keeps g c).After-give-at)
    (ap (λ (b : Contents). b.head) c.give-at.ensures.served.new_is) c.put_back-seen.ensures.put c.put_back-seen.ensures.sight
    c.put_back-seen.ensures.loans

-- A section in which a client's seat leaves.
use denote.Exit.{no}
use denote.Param.Send.{param_send, arg_send}
use Rattle.hp_live.proofs.Sending.{live_send}
use Rattle.std.proofs.Common.{◌≡◌, Some, ap, ◌∙◌}
use Rattle.hp_board.specs.Contents.{Contents}
use Rattle.hp_live.specs.Steps.{Finds, IsInside}
use Rattle.hp_live.proofs.Finding.{Puts, is_board, finds, inside_held, seat_held, lent_found, still_given, can_put, still_put, lent_put}
use Rattle.hp_live.proofs.LeaveSections.{may_leave, leave_puts, leaves_in}
use Rattle.hp_live.proofs.hotplug.Hotplug.leave_section.Given as given
use Rattle.hp_live.proofs.hotplug.Hotplug.leave_section.Goals as goal
use Rattle.hp_live.proofs.hotplug.Hotplug.leave_section.Goals.{After-sound, After-leave}

found : (g : given.Over) (c : After-sound g) → Finds c.args.sight.now c.lock-live.result.board
found g c =
    finds c.args.sight.now c.sight.inside.turn c.lock-live.result.board c.sight.view_is c.lock-live.ensures.head
    c.lock-live.ensures.knew c.lock-live.ensures.lent
    (is_board c.lock-live.result.board c.sound.ensures.lawful c.sound.ensures.table c.sound.ensures.out)

inside : (g : given.Over) (c : After-sound g) → IsInside c.lock-live.new.pass c.lock-live.result.board
inside g c =
    inside_held c.sight.inside.turn c.lock-live.new.pass c.lock-live.result.board c.lock-live.ensures.same
    c.lock-live.ensures.took c.lock-live.ensures.head

own : (g : given.Over) (c : After-sound g) → c.args.sight.now.seat ≡ Some c.args.seat → c.lock-live.new.pass.seat ≡ Some c.args.seat
own g c is = seat_held c.args.sight.now c.sight.inside.turn c.lock-live.new.pass c.args.seat c.sight.view_is c.lock-live.ensures.same is

puts : (g : given.Over) (c : After-leave g) → Puts c.args.seat c.lock-live.result.board.events c.leave.new.self.events
puts g c =
    leave_puts c.args.seat c.lock-live.result.board.events c.leave.new.self.events
    (ap (λ (b : Contents). b.events) c.leave.ensures.left)

pub leave-requires : goal.leave-requires
leave-requires g c =
    may_leave c.args.sight.now c.args.seat c.lock-live.result.board (found g (goal.at.leave-requires g c).After-sound) c.requires.seat
    c.requires.out c.requires.idle

pub put_back-seen-requires-clause-put : goal.put_back-seen-requires-clause-put
put_back-seen-requires-clause-put g c κs within =
    let at = goal.at.put_back-seen-requires-clause-put g c in
    can_put c.lock-live.new.pass c.args.seat c.lock-live.result.board c.leave.new.self (own g at.After-sound c.requires.seat)
    (inside g at.After-sound) c.sound.ensures.lawful (ap (λ (b : Contents). b.head) c.leave.ensures.left) (puts g at.After-leave)
    (λ j apart. c.leave.ensures.stays j)

pub returns-clause-still : goal.returns-clause-still
returns-clause-still g c =
    let at = goal.at.returns-clause-still g c in
    still_given c.args.sight.now c.sight.inside.turn c.lock-live.new.pass c.put_back-seen.new.pass c.sight.view_is c.lock-live.ensures.same
    (still_put c.lock-live.new.pass c.put_back-seen.new.pass c.args.seat c.lock-live.result.board c.leave.new.self
    (own g at.After-sound c.requires.seat) (inside g at.After-sound) (puts g at.After-leave) c.put_back-seen.ensures.put)

pub returns-clause-left : goal.returns-clause-left
returns-clause-left g c =
    leaves_in c.args.sight.now c.put_back-seen.new.pass c.args.seat c.lock-live.result.board c.leave.new.self
    (found g (goal.at.returns-clause-left g c).After-sound) c.requires.seat c.leave.ensures.left
    c.put_back-seen.ensures.put.seen.front_is

pub returns-clause-nothing : goal.returns-clause-nothing
returns-clause-nothing g c =
    let at = goal.at.returns-clause-nothing g c in
    lent_put c.lock-live.new.pass c.put_back-seen.new.pass c.args.seat c.lock-live.result.board c.leave.new.self
    (own g at.After-sound c.requires.seat) (inside g at.After-sound) (puts g at.After-leave) c.put_back-seen.ensures.put
    ∙ c.leave.ensures.stays c.args.seat
    ∙ lent_found c.args.sight.now c.args.seat c.lock-live.result.board (found g at.After-sound) c.requires.seat ∙ c.requires.nothing

pub lock-live-requires-send-V : goal.lock-live-requires-send-V
lock-live-requires-send-V g c κs within = param_send 0 _ (arg_send _ no _ (live_send _ _ c.type_bounds.send-H))

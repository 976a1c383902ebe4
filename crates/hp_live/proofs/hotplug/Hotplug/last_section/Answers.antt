-- A section of a thread's seat that leaves where nothing is due.
use denote.Exit.{no}
use denote.Param.Send.{param_send, arg_send}
use Rattle.hp_live.proofs.Sending.{live_send}
use Rattle.std.proofs.Common.{◌≡◌, Some, ◌∙◌}
use Rattle.hp_live.specs.Steps.{Finds, IsInside}
use Rattle.hp_live.proofs.Finding.{Puts, is_board, finds, inside_held, seat_held, lent_found, still_given, can_put, still_put, lent_put}
use Rattle.hp_live.proofs.LeaveSections.{LeftOr, left_or, left_puts, left_head, left_leaves, left_serves, thread_may_leave}
use Rattle.hp_live.proofs.hotplug.Hotplug.last_section.Given as given
use Rattle.hp_live.proofs.hotplug.Hotplug.last_section.Goals as goal
use Rattle.hp_live.proofs.hotplug.Hotplug.last_section.Goals.{After-sound, After-serve_or_leave-step}

found : (g : given.Over) (c : After-sound g) → Finds c.args.sight.now c.lock-live.result.board
found g c =
    finds c.args.sight.now c.sight.inside.turn c.lock-live.result.board c.sight.view_is c.lock-live.ensures.head
    c.lock-live.ensures.knew c.lock-live.ensures.lent
    (is_board c.lock-live.result.board c.sound.ensures.lawful c.sound.ensures.table c.sound.ensures.out)

inside : (g : given.Over) (c : After-sound g) → IsInside c.lock-live.new.pass c.lock-live.result.board
inside g c =
    inside_held c.sight.inside.turn c.lock-live.new.pass c.lock-live.result.board c.lock-live.ensures.same
    c.lock-live.ensures.took c.lock-live.ensures.head

own : (g : given.Over) (c : After-sound g) → c.args.sight.now.seat ≡ Some c.args.seat → c.lock-live.new.pass.seat ≡ Some c.args.seat
own g c is = seat_held c.args.sight.now c.sight.inside.turn c.lock-live.new.pass c.args.seat c.sight.view_is c.lock-live.ensures.same is

left : (g : given.Over) (c : After-serve_or_leave-step g) →
    LeftOr c.args.seat c.lock-live.result.board c.serve_or_leave-step.new.board c.serve_or_leave-step.result
left g c =
    left_or c.args.seat c.lock-live.result.board c.serve_or_leave-step.new.board c.serve_or_leave-step.result
    c.serve_or_leave-step.ensures.left c.serve_or_leave-step.ensures.serves

puts : (g : given.Over) (c : After-serve_or_leave-step g) →
    Puts c.args.seat c.lock-live.result.board.events c.serve_or_leave-step.new.board.events
puts g c =
    left_puts c.args.seat c.lock-live.result.board c.serve_or_leave-step.new.board c.serve_or_leave-step.result (left g c)

pub serve_or_leave-step-requires-clause-nothing : goal.serve_or_leave-step-requires-clause-nothing
serve_or_leave-step-requires-clause-nothing g c =
    lent_found c.args.sight.now c.args.seat c.lock-live.result.board
    (found g (goal.at.serve_or_leave-step-requires-clause-nothing g c).After-sound) c.requires.seat ∙ c.requires.nothing

pub serve_or_leave-step-requires-clause-free : goal.serve_or_leave-step-requires-clause-free
serve_or_leave-step-requires-clause-free g c =
    thread_may_leave c.args.sight.now c.args.seat c.lock-live.result.board
    (found g (goal.at.serve_or_leave-step-requires-clause-free g c).After-sound) c.requires.seat c.requires.thread

pub put_back-seen-requires-clause-put : goal.put_back-seen-requires-clause-put
put_back-seen-requires-clause-put g c κs within =
    let at = goal.at.put_back-seen-requires-clause-put g c in
    can_put c.lock-live.new.pass c.args.seat c.lock-live.result.board c.serve_or_leave-step.new.board
    (own g at.After-sound c.requires.seat) (inside g at.After-sound) c.sound.ensures.lawful
    (left_head c.args.seat c.lock-live.result.board c.serve_or_leave-step.new.board c.serve_or_leave-step.result
    (left g at.After-serve_or_leave-step))
    (puts g at.After-serve_or_leave-step) c.serve_or_leave-step.ensures.others

pub returns-clause-still : goal.returns-clause-still
returns-clause-still g c =
    let at = goal.at.returns-clause-still g c in
    still_given c.args.sight.now c.sight.inside.turn c.lock-live.new.pass c.put_back-seen.new.pass c.sight.view_is c.lock-live.ensures.same
    (still_put c.lock-live.new.pass c.put_back-seen.new.pass c.args.seat c.lock-live.result.board c.serve_or_leave-step.new.board
    (own g at.After-sound c.requires.seat) (inside g at.After-sound) (puts g at.After-serve_or_leave-step)
    c.put_back-seen.ensures.put)

pub returns-clause-left : goal.returns-clause-left
returns-clause-left g c =
    left_leaves c.args.sight.now c.put_back-seen.new.pass c.args.seat c.lock-live.result.board c.serve_or_leave-step.new.board
    c.serve_or_leave-step.result (found g (goal.at.returns-clause-left g c).After-sound) c.requires.seat
    c.serve_or_leave-step.ensures.left c.put_back-seen.ensures.put.seen.front_is

pub returns-clause-serves : goal.returns-clause-serves
returns-clause-serves g c =
    left_serves c.args.sight.now c.put_back-seen.new.pass c.args.seat c.lock-live.result.board c.serve_or_leave-step.new.board
    c.serve_or_leave-step.result (found g (goal.at.returns-clause-serves g c).After-sound) c.serve_or_leave-step.ensures.serves
    c.put_back-seen.ensures.put.seen

pub returns-clause-lent : goal.returns-clause-lent
returns-clause-lent g c =
    let at = goal.at.returns-clause-lent g c in
    lent_put c.lock-live.new.pass c.put_back-seen.new.pass c.args.seat c.lock-live.result.board c.serve_or_leave-step.new.board
    (own g at.After-sound c.requires.seat) (inside g at.After-sound) (puts g at.After-serve_or_leave-step) c.put_back-seen.ensures.put
    ∙ c.serve_or_leave-step.ensures.lent

pub lock-live-requires-send-V : goal.lock-live-requires-send-V
lock-live-requires-send-V g c κs within = param_send 0 _ (arg_send _ no _ (live_send _ _ c.type_bounds.send-H))

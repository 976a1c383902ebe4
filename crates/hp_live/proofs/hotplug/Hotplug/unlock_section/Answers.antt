-- A section in which a reader's seat ends its read section.
use denote.Exit.{no}
use denote.Param.Send.{param_send, arg_send}
use Rattle.hp_live.proofs.Sending.{live_send}
use Rattle.std.proofs.Common.{◌≡◌, Some, ap, ◌∙◌}
use Rattle.hp_board.specs.Contents.{Contents}
use Rattle.hp_live.specs.Steps.{Finds, IsInside}
use Rattle.hp_live.proofs.Finding.{Puts, is_board, finds, inside_held, seat_held, lent_found, still_given, can_put, still_put, lent_put}
use Rattle.hp_live.proofs.ReadEvents.{unlock_next}
use Rattle.hp_live.proofs.ReadSteps.{unlock_puts, unlocks_in, idle_found, role_found, reads_found}
use Rattle.hp_live.proofs.hotplug.Hotplug.unlock_section.Given as given
use Rattle.hp_live.proofs.hotplug.Hotplug.unlock_section.Goals as goal
use Rattle.hp_live.proofs.hotplug.Hotplug.unlock_section.Goals.{After-sound, After-stop_reading}

found : (g : given.Over) (c : After-sound g) → Finds c.args.sight.now c.lock-live.result.board
found g c =
    finds c.args.sight.now c.sight.inside.turn c.lock-live.result.board c.sight.view_is c.lock-live.ensures.head
    c.lock-live.ensures.knew c.lock-live.ensures.lent
    (is_board c.lock-live.result.board c.sound.ensures.lawful c.sound.ensures.table c.sound.ensures.out)

inside : (g : given.Over) (c : After-sound g) → IsInside c.lock-live.new.pass c.lock-live.result.board
inside g c =
    inside_held c.sight.inside.turn c.lock-live.new.pass c.lock-live.result.board c.lock-live.ensures.same
    c.lock-live.ensures.took c.lock-live.ensures.head

own : (g : given.Over) (c : After-sound g) → c.args.sight.now.seat ≡ Some c.args.seat → c.lock-live.new.pass.seat ≡ Some c.args.seat
own g c is = seat_held c.args.sight.now c.sight.inside.turn c.lock-live.new.pass c.args.seat c.sight.view_is c.lock-live.ensures.same is

puts : (g : given.Over) (c : After-stop_reading g) →
    Puts c.args.seat c.lock-live.result.board.events c.stop_reading.new.board.events
puts g c = unlock_puts c.args.seat c.lock-live.result.board c.stop_reading.new.board c.stop_reading.ensures.unlocked

pub stop_reading-requires-clause-role : goal.stop_reading-requires-clause-role
stop_reading-requires-clause-role g c =
    role_found c.args.sight.now c.args.seat c.lock-live.result.board
    (found g (goal.at.stop_reading-requires-clause-role g c).After-sound) c.requires.seat c.requires.role

pub stop_reading-requires-clause-reading : goal.stop_reading-requires-clause-reading
stop_reading-requires-clause-reading g c =
    reads_found c.args.sight.now c.args.seat c.lock-live.result.board
    (found g (goal.at.stop_reading-requires-clause-reading g c).After-sound) c.requires.seat c.requires.reading

pub stop_reading-requires-clause-idle : goal.stop_reading-requires-clause-idle
stop_reading-requires-clause-idle g c =
    idle_found c.args.sight.now c.args.seat c.lock-live.result.board
    (found g (goal.at.stop_reading-requires-clause-idle g c).After-sound) c.requires.seat c.requires.idle

pub stop_reading-requires-clause-nothing : goal.stop_reading-requires-clause-nothing
stop_reading-requires-clause-nothing g c =
    lent_found c.args.sight.now c.args.seat c.lock-live.result.board
    (found g (goal.at.stop_reading-requires-clause-nothing g c).After-sound) c.requires.seat ∙ c.requires.nothing

pub put_back-seen-requires-clause-put : goal.put_back-seen-requires-clause-put
put_back-seen-requires-clause-put g c κs within =
    let at = goal.at.put_back-seen-requires-clause-put g c in
    can_put c.lock-live.new.pass c.args.seat c.lock-live.result.board c.stop_reading.new.board
    (own g at.After-sound c.requires.seat) (inside g at.After-sound) c.sound.ensures.lawful
    (ap (λ (b : Contents). b.head) c.stop_reading.ensures.unlocked) (puts g at.After-stop_reading)
    (λ j apart. c.stop_reading.ensures.stays j)

pub returns-clause-still : goal.returns-clause-still
returns-clause-still g c =
    let at = goal.at.returns-clause-still g c in
    still_given c.args.sight.now c.sight.inside.turn c.lock-live.new.pass c.put_back-seen.new.pass c.sight.view_is c.lock-live.ensures.same
    (still_put c.lock-live.new.pass c.put_back-seen.new.pass c.args.seat c.lock-live.result.board c.stop_reading.new.board
    (own g at.After-sound c.requires.seat) (inside g at.After-sound) (puts g at.After-stop_reading) c.put_back-seen.ensures.put)

pub returns-clause-unlocked : goal.returns-clause-unlocked
returns-clause-unlocked g c =
    let f = found g (goal.at.returns-clause-unlocked g c).After-sound in
    let board = c.lock-live.result.board in
    unlocks_in c.args.sight.now c.args.seat board c.stop_reading.new.board c.put_back-seen.new.pass.front f c.requires.seat
    (unlock_next board.head board.events c.args.seat (role_found c.args.sight.now c.args.seat board f c.requires.seat c.requires.role)
    (idle_found c.args.sight.now c.args.seat board f c.requires.seat c.requires.idle)
    (reads_found c.args.sight.now c.args.seat board f c.requires.seat c.requires.reading))
    c.stop_reading.ensures.unlocked c.put_back-seen.ensures.put.seen.front_is

pub returns-clause-nothing : goal.returns-clause-nothing
returns-clause-nothing g c =
    let at = goal.at.returns-clause-nothing g c in
    lent_put c.lock-live.new.pass c.put_back-seen.new.pass c.args.seat c.lock-live.result.board c.stop_reading.new.board
    (own g at.After-sound c.requires.seat) (inside g at.After-sound) (puts g at.After-stop_reading) c.put_back-seen.ensures.put
    ∙ c.stop_reading.ensures.stays c.args.seat
    ∙ lent_found c.args.sight.now c.args.seat c.lock-live.result.board (found g at.After-sound) c.requires.seat ∙ c.requires.nothing

pub lock-live-requires-send-V : goal.lock-live-requires-send-V
lock-live-requires-send-V g c κs within = param_send 0 _ (arg_send _ no _ (live_send _ _ c.type_bounds.send-H))

-- A section in which a client's seat asks for a read section.
use denote.Exit.{no}
use denote.Param.Send.{param_send, arg_send}
use Rattle.hp_live.proofs.Sending.{live_send}
use Rattle.std.proofs.Common.{◌≡◌, Some, sym, ◌∙◌}
use Rattle.hp_live.specs.Steps.{Finds, IsInside}
use Rattle.hp_live.proofs.Finding.{Puts, is_board, finds, inside_held, seat_held, lent_found, still_given, can_put, still_put, lent_put}
use Rattle.hp_live.proofs.ReadSteps.{asks_puts, asks_head, asks_in, out_found, idle_found, idle_loan}
use Rattle.hp_live.proofs.hotplug.Hotplug.lock_section.Given as given
use Rattle.hp_live.proofs.hotplug.Hotplug.lock_section.Goals as goal
use Rattle.hp_live.proofs.hotplug.Hotplug.lock_section.Goals.{After-sound, After-ask_to_read-asked}

found : (g : given.Over) (c : After-sound g) → Finds c.args.sight.now c.lock-live.result.board
found g c =
    finds c.args.sight.now c.sight.inside.turn c.lock-live.result.board c.sight.view_is c.lock-live.ensures.head
    c.lock-live.ensures.knew c.lock-live.ensures.lent
    (is_board c.lock-live.result.board c.sound.ensures.lawful c.sound.ensures.table c.sound.ensures.out)

inside : (g : given.Over) (c : After-sound g) → IsInside c.lock-live.new.pass c.lock-live.result.board
inside g c =
    inside_held c.sight.inside.turn c.lock-live.new.pass c.lock-live.result.board c.lock-live.ensures.same
    c.lock-live.ensures.took c.lock-live.ensures.head

own : (g : given.Over) (c : After-sound g) → c.args.sight.now.seat ≡ Some c.args.seat → c.lock-live.new.pass.seat ≡ Some c.args.seat
own g c is = seat_held c.args.sight.now c.sight.inside.turn c.lock-live.new.pass c.args.seat c.sight.view_is c.lock-live.ensures.same is

puts : (g : given.Over) (c : After-ask_to_read-asked g) →
    Puts c.args.seat c.lock-live.result.board.events c.ask_to_read-asked.new.board.events
puts g c =
    asks_puts c.args.seat c.lock-live.result.board c.ask_to_read-asked.new.board c.ask_to_read-asked.result
    c.ask_to_read-asked.ensures.asks

pub ask_to_read-asked-requires-clause-out : goal.ask_to_read-asked-requires-clause-out
ask_to_read-asked-requires-clause-out g c =
    out_found c.args.sight.now c.args.seat c.lock-live.result.board
    (found g (goal.at.ask_to_read-asked-requires-clause-out g c).After-sound) c.requires.seat c.requires.out

pub ask_to_read-asked-requires-clause-idle : goal.ask_to_read-asked-requires-clause-idle
ask_to_read-asked-requires-clause-idle g c =
    idle_found c.args.sight.now c.args.seat c.lock-live.result.board
    (found g (goal.at.ask_to_read-asked-requires-clause-idle g c).After-sound) c.requires.seat c.requires.idle

pub ask_to_read-asked-requires-clause-nothing : goal.ask_to_read-asked-requires-clause-nothing
ask_to_read-asked-requires-clause-nothing g c =
    let f = found g (goal.at.ask_to_read-asked-requires-clause-nothing g c).After-sound in
    idle_loan c.lock-live.result.board c.args.seat c.sound.ensures.lawful
    (out_found c.args.sight.now c.args.seat c.lock-live.result.board f c.requires.seat c.requires.out)
    (idle_found c.args.sight.now c.args.seat c.lock-live.result.board f c.requires.seat c.requires.idle)

pub put_back-seen-requires-clause-put : goal.put_back-seen-requires-clause-put
put_back-seen-requires-clause-put g c κs within =
    let at = goal.at.put_back-seen-requires-clause-put g c in
    can_put c.lock-live.new.pass c.args.seat c.lock-live.result.board c.ask_to_read-asked.new.board
    (own g at.After-sound c.requires.seat) (inside g at.After-sound) c.sound.ensures.lawful
    (asks_head c.args.seat c.lock-live.result.board c.ask_to_read-asked.new.board c.ask_to_read-asked.result
    c.ask_to_read-asked.ensures.asks)
    (puts g at.After-ask_to_read-asked) (λ j apart. c.ask_to_read-asked.ensures.stays j)

pub returns-clause-still : goal.returns-clause-still
returns-clause-still g c =
    let at = goal.at.returns-clause-still g c in
    still_given c.args.sight.now c.sight.inside.turn c.lock-live.new.pass c.put_back-seen.new.pass c.sight.view_is c.lock-live.ensures.same
    (still_put c.lock-live.new.pass c.put_back-seen.new.pass c.args.seat c.lock-live.result.board c.ask_to_read-asked.new.board
    (own g at.After-sound c.requires.seat) (inside g at.After-sound) (puts g at.After-ask_to_read-asked)
    c.put_back-seen.ensures.put)

pub returns-clause-asks : goal.returns-clause-asks
returns-clause-asks g c =
    asks_in c.args.sight.now c.args.seat c.lock-live.result.board c.ask_to_read-asked.new.board c.put_back-seen.new.pass.front
    c.ask_to_read-asked.result (found g (goal.at.returns-clause-asks g c).After-sound) c.requires.seat
    c.ask_to_read-asked.ensures.asks c.put_back-seen.ensures.put.seen.front_is

pub returns-clause-carried : goal.returns-clause-carried
returns-clause-carried g c =
    let f = found g (goal.at.returns-clause-carried g c).After-sound in
    sym (lent_found c.args.sight.now c.args.seat c.lock-live.result.board f c.requires.seat)
    ∙ idle_loan c.lock-live.result.board c.args.seat c.sound.ensures.lawful
    (out_found c.args.sight.now c.args.seat c.lock-live.result.board f c.requires.seat c.requires.out)
    (idle_found c.args.sight.now c.args.seat c.lock-live.result.board f c.requires.seat c.requires.idle)

pub returns-clause-nothing : goal.returns-clause-nothing
returns-clause-nothing g c =
    let at = goal.at.returns-clause-nothing g c in
    let f = found g at.After-sound in
    lent_put c.lock-live.new.pass c.put_back-seen.new.pass c.args.seat c.lock-live.result.board c.ask_to_read-asked.new.board
    (own g at.After-sound c.requires.seat) (inside g at.After-sound) (puts g at.After-ask_to_read-asked)
    c.put_back-seen.ensures.put
    ∙ c.ask_to_read-asked.ensures.stays c.args.seat
    ∙ idle_loan c.lock-live.result.board c.args.seat c.sound.ensures.lawful
    (out_found c.args.sight.now c.args.seat c.lock-live.result.board f c.requires.seat c.requires.out)
    (idle_found c.args.sight.now c.args.seat c.lock-live.result.board f c.requires.seat c.requires.idle)

pub lock-live-requires-send-V : goal.lock-live-requires-send-V
lock-live-requires-send-V g c κs within = param_send 0 _ (arg_send _ no _ (live_send _ _ c.type_bounds.send-H))

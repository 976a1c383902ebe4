use Rattle.std.proofs.Common.{◌≡◌, ◌≤◌, List, ap, length, take, length-take-le, arith}
use Rattle.hp_event.specs.declared.event.Event.{Event}
use Rattle.hp_timeline.specs.Sheet.{clients}
use Rattle.hp_timeline.proofs.Clients.{clients_many}
use Rattle.hp_timeline.proofs.Events.{length_take}
use Rattle.hp_timeline.proofs.sheet.Sheet.new.Goals as goal

pub returns-clause-few : goal.returns-clause-few
returns-clause-few c =
    let shown : List Event = take c.args.window.until c.args.events.now in
    let all : length shown ≡ c.args.window.until = length_take c.args.events.now c.args.window.until c.requires.window.within in
    let part = length-take-le c.loop-event.event-index shown in
    let many = clients_many (take c.loop-event.event-index shown) in
    let same : length c.loop-event.clients ≡ length (clients (take c.loop-event.event-index shown)) =
    ap length c.loop-event.invariant in
    omega (arith, same, all, part, many, c.requires.few, c.requires.window.within)

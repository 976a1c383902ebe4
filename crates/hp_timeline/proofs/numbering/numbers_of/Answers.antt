use Rattle.std.proofs.Common.{ℕ, List, get_or, take, length-take-le, arith}
use Rattle.std.proofs.lemmas.List.{take_more}
use Rattle.hp_event.specs.declared.event.Event.{Event}
use Rattle.hp_event.specs.declared.event.Event.TheVariants.{Admit}
use Rattle.hp_event.specs.declared.event.Role.TheVariants.{Client}
use Rattle.hp_print.proofs.OperationNumbersLaws.{operations_few, numbered_push}
use Rattle.hp_timeline.proofs.OperationNumbers.{numbers_go}
use Rattle.hp_timeline.proofs.numbering.numbers_of.Goals as goal

pub take-requires : goal.take-requires
take-requires c = λ seat.
    let i : ℕ = c.loop-event.event-index in
    let events : List Event = c.args.events.now in
    let is = c.loop-event.invariant.begun seat in
    let few = operations_few seat (take i events) in
    omega (arith, length-take-le i events, c.requires)

pub loop-event-preserved : goal.loop-event-preserved
loop-event-preserved c =
    let events : List Event = c.args.events.now in
    let i : ℕ = c.loop-event.event-index in
    let e : Event = get_or events i (Admit 0 Client) in
    let after =
    numbered_push (take i events) e c.loop-event.begun c.take.new.self c.loop-event.invariant.begun c.in_ok-number.ensures.taken in
    rw (take_more events i (Admit 0 Client) c.loop-event-test.true) record {
      numbers =
          numbers_go (take i events) e c.loop-event.numbers.items c.push.new.self.items c.in_ok-number.number c.take.new.self
          c.loop-event.invariant.numbers after c.in_ok-number.ensures.number c.in_ok-push.ensures.items;
      begun = after;
    }

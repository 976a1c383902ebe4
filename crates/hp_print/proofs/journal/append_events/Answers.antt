use Rattle.std.proofs.Common.{arith, ◌≡◌, ℕ, List, [], ◌∷◌, ◌++◌, take, get_or, length-take-le, sym, ap, ◌∙◌, append_assoc}
use Rattle.std.proofs.lemmas.List.{take_more}
use Rattle.hp_event.specs.Events.{seat_of}
use Rattle.hp_event.specs.declared.event.Event.{Event}
use Rattle.hp_event.specs.declared.event.Event.TheVariants.{Admit}
use Rattle.hp_event.specs.declared.event.Role.TheVariants.{Client}
use Rattle.hp_event.specs.declared.version.Version.TheVariants.{Two}
use Rattle.hp_model.specs.OperationNumber.{operation_number}
use Rattle.hp_model.specs.EventLine.{event_line}
use Rattle.hp_model.specs.JournalText.{event_lines}
use Rattle.hp_print.proofs.OperationNumbersLaws.{operations_few, numbered_push, event_lines_push}
use Rattle.hp_print.proofs.journal.append_events.Goals as goal

pub take-requires : goal.take-requires
take-requires c = λ seat.
    let i = c.loop-event.event-index in
    let events : List Event = c.args.events.now in
    let is = c.loop-event.invariant.1 seat in
    let few = operations_few seat (take i events) in
    omega (arith, length-take-le i events, c.requires)

pub loop-event-preserved : goal.loop-event-preserved
loop-event-preserved c =
    let i : ℕ = c.loop-event.event-index in
    let events : List Event = c.args.events.now in
    let more = take_more events i (Admit 0 Client) c.loop-event-test.true in
    let e : Event = get_or events i (Admit 0 Client) in
    let before = take i events in
    let h = c.loop-event.invariant in
    let numbered = numbered_push before e c.loop-event.numbers c.take.new.self h.1 c.in_ok-number.ensures.taken in
    let number : c.in_ok-number.number ≡ operation_number before e = c.in_ok-number.ensures.number ∙ numbered (seat_of e) in
    let line = event_line Two (operation_number before e) e in
    let out : c.append_event.new.out.items ≡ c.args.out.now.items ++ event_lines Two [] (before ++ e ∷ []) =
    c.in_ok-append_event.ensures
    ∙ ap (λ (n : ℕ). c.loop-event.out.items ++ event_line Two n e) number
    ∙ ap (λ (bytes : List ℕ). bytes ++ line) h.0
    ∙ append_assoc c.args.out.now.items (event_lines Two [] before) line
    ∙ ap (λ (bytes : List ℕ). c.args.out.now.items ++ bytes) (sym (event_lines_push Two [] before e)) in
    rw more (out, numbered)

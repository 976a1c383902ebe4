use Rattle.std.proofs.Common.{arith, ℕ, List, ◌<◌, ◌^◌, length, take, get_or, length-take-le}
use Rattle.std.proofs.lemmas.List.{take_more}
use Rattle.hp_event.specs.declared.event.Event.{Event}
use Rattle.hp_event.specs.declared.event.Event.TheVariants.{Admit}
use Rattle.hp_event.specs.declared.event.Role.TheVariants.{Client}
use Rattle.hp_print.proofs.SuspendTallyStep.{suspended_step}
use Rattle.hp_print.proofs.ProcessorTallyStep.{processors_step}
use Rattle.hp_print.proofs.StateTallyStep.{states_step}
use Rattle.hp_print.proofs.AnswerCountsStep.{answers_step}
use Rattle.hp_print.proofs.tally.tally_of.Goals as goal

pub loop-event-preserved : goal.loop-event-preserved
loop-event-preserved c =
    let i : ℕ = c.loop-event.event-index in
    let events : List Event = c.args.events.now in
    let few : length (take i events) < 2 ^ 63 = omega (arith, length-take-le i events) in
    let more = take_more events i (Admit 0 Client) c.loop-event-test.true in
    let e : Event = get_or events i (Admit 0 Client) in
    let s = c.in_ok-count.ensures in
    let old = c.loop-event.tally in
    let new = c.count.new.self in
    let h = c.loop-event.invariant in
    rw more record {
      suspended_is =
          suspended_step (take i events) e old.suspended new.suspended few h.suspended_is s.op s.disabled s.frozen;
      processors_is =
          processors_step c.args.head.now.possible (take i events) e old.processors new.processors few h.processors_is
          s.targets s.settled s.keys;
      states_is =
          states_step c.args.head.now 201 (take i events) e old.states new.states few h.states_is s.asked s.subs s.insts
          s.made s.faults;
      answers_is =
          answers_step (take i events) e old.answers new.answers few h.answers_is s.ok s.refused s.fault s.stuck s.full;
    }

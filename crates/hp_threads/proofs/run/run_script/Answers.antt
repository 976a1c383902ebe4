-- What the threads gave back, as the journal has it in the end.
use denote.Exit.{yes}
use denote.Param.Send.{param_send, param_sync, arg_sync, given_send, given_sync}
use Rattle.std.proofs.Common.{true, None, ◌∙◌, subst, List}
use Rattle.hp_event.specs.declared.event.Event.{Event}
use Rattle.hp_event.specs.declared.head.Head.{Head}
use Rattle.hp_model.specs.Lawful.{IsLawful}
use Rattle.hp_turn.specs.Story.{Knows}
use Rattle.hp_threads.proofs.Journaling.{journal_of}
use Rattle.hp_threads.proofs.Meeting.{backs_held, lefts_held}
use Rattle.hp_threads.proofs.run.run_script.Goals as goal

pub run_threads-lefts-requires-clause-bounds : goal.run_threads-lefts-requires-clause-bounds
run_threads-lefts-requires-clause-bounds g c κs within = (
  param_send 0 _ (given_send 0 _ g.row.H c.type_bounds.send-H),
  param_sync 1 _ (arg_sync _ yes g.row.R (given_sync 1 g.row.R c.type_bounds.sync-R)),
  param_sync 2 _ (arg_sync _ yes g.row.G (given_sync 2 g.row.G c.type_bounds.sync-G)),
)

pub run_threads-lefts-requires-clause-jobs : goal.run_threads-lefts-requires-clause-jobs
run_threads-lefts-requires-clause-jobs g c κs within = c.in_ok-passes.ensures.opened.act

pub run_threads-lefts-requires-clause-passes : goal.run_threads-lefts-requires-clause-passes
run_threads-lefts-requires-clause-passes g c κs within = c.in_ok-passes.ensures.opened.serve

pub meet_all-requires-clause-own : goal.meet_all-requires-clause-own
meet_all-requires-clause-own g c κs within = c.in_ok-passes.ensures.same.0 ∙ c.in_ok-machine.ensures.own

pub meet_all-requires-clause-lefts : goal.meet_all-requires-clause-lefts
meet_all-requires-clause-lefts g c κs within =
    lefts_held c.in_ok-machine.machine c.in_ok-passes.jobs.items c.run_threads-lefts.result.0.items c.in_ok-passes.ensures.opened.act
    c.run_threads-lefts.ensures.ran

pub leave_all-requires-clause-own : goal.leave_all-requires-clause-own
leave_all-requires-clause-own g c κs within =
    c.meet_all.ensures.same.0 ∙ c.in_ok-passes.ensures.same.0 ∙ c.in_ok-machine.ensures.own

pub leave_all-requires-clause-passes : goal.leave_all-requires-clause-passes
leave_all-requires-clause-passes g c κs within =
    backs_held c.in_ok-machine.machine c.in_ok-passes.passes.items c.run_threads-lefts.result.1.items c.in_ok-passes.ensures.opened.serve
    c.run_threads-lefts.ensures.stayed

pub close-requires-clause-own : goal.close-requires-clause-own
close-requires-clause-own g c κs within =
    c.leave_all.ensures.same.0 ∙ c.meet_all.ensures.same.0 ∙ c.in_ok-passes.ensures.same.0 ∙ c.in_ok-machine.ensures.own

pub returns-clause-head : goal.returns-clause-head
returns-clause-head g c =
    c.close.ensures.head ∙ c.leave_all.ensures.same.1 ∙ c.meet_all.ensures.same.1 ∙ c.in_ok-passes.ensures.same.1
    ∙ c.in_ok-machine.ensures.head ∙ c.head.ensures

pub returns-clause-journal : goal.returns-clause-journal
returns-clause-journal g c =
    let o = c.in_ok-passes.ensures.opened in
    let head =
    c.close.ensures.head ∙ c.leave_all.ensures.same.1 ∙ c.meet_all.ensures.same.1 ∙ c.in_ok-passes.ensures.same.1
    ∙ c.in_ok-machine.ensures.head ∙ c.head.ensures in
    journal_of c.args.script.now c.in_ok-passes.jobs.items c.run_threads-lefts.result.0.items c.in_ok-passes.passes.items
    c.run_threads-lefts.result.1.items c.meet_all.new.root.front c.leave_all.new.root.front c.close.result.events
    (record {
      lawful = subst (λ (h : Head). IsLawful h c.close.result.events) head c.close.ensures.lawful;
      count = o.seats;
      threads = o.threads;
      how_many = o.count;
      clients = o.clients;
      ops = o.ops;
      ran = c.run_threads-lefts.ensures.ran;
      stayed = c.run_threads-lefts.ensures.stayed;
      heard = subst (λ (f : List Event). Knows None true f c.meet_all.new.root.front) o.front_is c.meet_all.ensures.begins;
      have_met = c.meet_all.ensures.met;
      gone = c.leave_all.ensures.gone;
      ends = c.close.ensures.begins;
    })

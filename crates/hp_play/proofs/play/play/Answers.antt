-- The run is the script's, to its end.
use Rattle.std.proofs.Common.{ap, subst, ◌∙◌}
use Rattle.hp_model.specs.Schedule.{IsRunBy}
use Rattle.hp_script.specs.declared.schedule.Schedule.{Schedule}
use Rattle.hp_script.specs.Schedules.{schedule_written}
use Rattle.hp_actors.specs.Hooks.{IsLater}
use Rattle.hp_actors.specs.Positions.{Position}
use Rattle.hp_play.proofs.JournalLaws.{journal_of}
use Rattle.hp_play.proofs.play.play.Goals as goal

pub returns : goal.returns
returns g c =
    let script = c.args.script.now in
    let run = c.play.new.self in
    let events = run.progress.events in
    let ran =
    subst (λ (s : Schedule). IsRunBy script.head script.actors (schedule_written s) events) c.schedule.ensures
    (subst (λ (p : Position). IsRunBy p.head p.actors (schedule_written c.schedule.result.now) events) c.in_ok-run.ensures.started
    c.in_ok-play.ensures.ran) in
    record {
      head_is = c.in_ok-play.ensures.head ∙ ap (λ (p : Position). p.head) c.in_ok-run.ensures.started;
      actors_are = c.in_ok-play.ensures.actors ∙ ap (λ (p : Position). p.actors) c.in_ok-run.ensures.started;
      journal = journal_of script events c.requires.script ran c.rests.ensures.operation c.rests.ensures.registration;
      over = c.in_ok-play.ensures.over;
      takes = c.in_ok-run.ensures.rack;
      first = c.in_ok-run.run'.hooks;
      one_for_each = c.in_ok-run.ensures.loaded;
      in_turn = c.in_ok-run.ensures.hooks;
      made = subst (λ (p : Position). IsLater p run) c.in_ok-run.ensures.started c.play.ensures.made;
    }

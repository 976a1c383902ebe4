-- The turns of the schedule, and rounds.
use Rattle.std.proofs.Common.{◌+◌, length}
use Rattle.hp_model.specs.Processors.{present}
use Rattle.hp_model.specs.Schedule.{first_turns}
use Rattle.hp_script.specs.Schedules.{schedule_written}
use Rattle.hp_actors.proofs.HooksTurned.{keeps_on}
use Rattle.hp_actors.proofs.Later.{later_on}
use Rattle.hp_actors.proofs.Turning.{schedule_ran}
use Rattle.hp_actors.proofs.run.Run.play.Goals as goal

pub returns-clause-ran : goal.returns-clause-ran
returns-clause-ran g c =
    let p = c.args.self.now in
    schedule_ran c.play_rounds.result p c.play_schedule.new.self
    (first_turns (length (present p.head) + length p.actors) (schedule_written c.args.schedule.now)) c.play_rounds.new.self.progress.events
    c.play_schedule.ensures.head c.play_schedule.ensures.actors c.in_ok-play_schedule.ensures.ok c.requires c.play_rounds.ensures.ran

pub returns-clause-kept : goal.returns-clause-kept
returns-clause-kept g c =
    keeps_on c.args.self.now c.play_schedule.new.self c.play_rounds.new.self c.play_schedule.ensures.kept c.play_rounds.ensures.kept

pub returns-clause-made : goal.returns-clause-made
returns-clause-made g c =
    later_on c.args.self.now c.play_schedule.new.self c.play_rounds.new.self c.play_schedule.ensures.made c.play_rounds.ensures.made

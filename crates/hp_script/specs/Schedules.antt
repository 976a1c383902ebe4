-- The schedule of a script as the run of a script takes it. This project's own.
use Rattle.hp_model.specs.Schedule.{Schedule}
use Rattle.hp_model.specs.Schedule as model
use Rattle.hp_script.specs.declared.schedule.Schedule.{Schedule as Written}
use Rattle.hp_script.specs.declared.schedule.Schedule.TheVariants.{Rounds, Turns, Mix}

-- the schedule that is written so
abbrev pub schedule_written : Written → Schedule
schedule_written Rounds = model.rounds
schedule_written (Turns seats) = model.turns seats
schedule_written (Mix seed turns) = model.mix seed turns

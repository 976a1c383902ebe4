-- A schedule without turns changes nothing.
use Rattle.std.proofs.Common.{◌≡◌, ◌+◌, length, refl, sym, subst}
use Rattle.hp_model.specs.Processors.{present}
use Rattle.hp_model.specs.Schedule.{first_turns}
use Rattle.hp_model.specs.ScriptTurns.{after_turns}
use Rattle.hp_script.specs.declared.schedule.Schedule.{Schedule}
use Rattle.hp_script.specs.Schedules.{schedule_written}
use Rattle.hp_actors.proofs.HooksTurned.{keeps_same}
use Rattle.hp_actors.proofs.Later.{later_same}
use Rattle.hp_actors.proofs.Progressing.{turns_none}
use Rattle.hp_actors.proofs.run.Run.play_schedule.Goals as goal

pub returns-in-Rounds-clause-ok : goal.returns-in-Rounds-clause-ok
returns-in-Rounds-clause-ok g c =
    let p = c.args.self.now in
    subst (λ (s : Schedule).
    p.progress ≡ after_turns p.head p.actors p.progress (first_turns (length (present p.head) + length p.actors) (schedule_written s)))
    (sym c.in-Rounds.is)
    (sym (turns_none p.head p.actors p.progress))

pub returns-in-Rounds-clause-kept : goal.returns-in-Rounds-clause-kept
returns-in-Rounds-clause-kept g c = keeps_same c.args.self.now c.args.self.now refl refl

pub returns-in-Rounds-clause-made : goal.returns-in-Rounds-clause-made
returns-in-Rounds-clause-made g c = later_same c.args.self.now

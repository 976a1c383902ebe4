-- What a line of the input does at a stage, in a version. This project's own.
use Rattle.hp_event.specs.declared.version.Version.{Version}
use Rattle.hp_replay.specs.declared.error.ReplayError.{ReplayError}
use Rattle.hp_replay.specs.declared.line.Line.{Line}
use Rattle.hp_replay.specs.Stages.{Stage, step}
use Rattle.hp_replay.specs.Judged.{Leads}
use Rattle.hp_replay.specs.Reading.{RefusesLine}

-- the line can stand at the first stage, and leads to the other
abbrev pub LineLeads : Version → (from : Stage) → Line → (to : Stage) → Type 0
LineLeads v from line to = Leads (step v from line.bytes.now) to

-- it can't stand at this stage, and is refused
abbrev pub LineRefused : Version → Stage → Line → ReplayError → Type 0
LineRefused v stage line error = RefusesLine (step v stage line.bytes.now) line.number error

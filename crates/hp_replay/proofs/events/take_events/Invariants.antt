use Rattle.std.proofs.Common.{◌≡◌, length}
use Rattle.hp_event.specs.declared.version.Version.{Version}
use Rattle.hp_print.specs.OperationNumbers.{IsNumbered}
use Rattle.hp_replay.specs.declared.events.Taking.{Taking}
use Rattle.hp_replay.specs.LinesLeft.{LinesLeft}
use Rattle.hp_replay.specs.Stages.{Stage}
use Rattle.hp_replay.specs.Reading.{GoesOver}
use Rattle.hp_replay.proofs.EventReading.{stage_of}
use Rattle.hp_replay.proofs.events.take_events.Given as goal

-- the law has taken the events of the lines so far, and their operations are counted
pub record Gone (v : Version) (start : LinesLeft) (from : Stage) (left : LinesLeft) (taking : Taking) : Type 0 where
  pub gone : GoesOver v start from left (stage_of taking.law)
  pub numbered : IsNumbered taking.law.events taking.numbers
  pub version : taking.version ≡ v

abbrev pub invariant-loop-line : goal.invariant-loop-line
invariant-loop-line l = Gone l.fn.taking.version l.fn.lines (stage_of l.fn.taking.law) l.lines l.taking

abbrev pub decreases-loop-line : goal.decreases-loop-line
decreases-loop-line l = length l.lines.lines

use Rattle.std.proofs.Common.{length}
use Rattle.hp_replay.specs.Stages.{headed}
use Rattle.hp_replay.specs.Reading.{GoesOver, head_stage}
use Rattle.hp_replay.proofs.head.read_subs.Given as goal

abbrev pub invariant-loop-draft : goal.invariant-loop-draft
invariant-loop-draft l = GoesOver l.fn.version l.fn.lines (headed l.fn.head) l.lines (head_stage l.draft.head l.draft.last)

abbrev pub decreases-loop-draft : goal.decreases-loop-draft
decreases-loop-draft l = length l.lines.lines

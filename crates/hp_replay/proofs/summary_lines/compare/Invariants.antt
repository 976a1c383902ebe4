use Rattle.std.proofs.Common.{List, length}
use Rattle.hp_event.specs.declared.head.Head.{Head}
use Rattle.hp_event.specs.declared.event.Event.{Event}
use Rattle.hp_event.specs.declared.version.Version.{Version}
use Rattle.hp_replay.specs.InputLines.{lines_of}
use Rattle.hp_replay.specs.Stages.{among_summary}
use Rattle.hp_replay.specs.Reading.{GoesOver}
use Rattle.hp_replay.proofs.summary_lines.compare.Given as goal

abbrev pub invariant-loop-rest : goal.invariant-loop-rest
invariant-loop-rest l = (v : Version) (head : Head) (events : List Event) →
    GoesOver v l.fn.lines (among_summary head events (lines_of l.fn.text)) l.lines (among_summary head events (lines_of l.rest))

abbrev pub decreases-loop-rest : goal.decreases-loop-rest
decreases-loop-rest l = length l.rest

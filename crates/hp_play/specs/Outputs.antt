-- What is written of a run: the text of its journal and the summary, the summary alone, the report, the line of counters that went
-- through it, or the states file after it. This project's own.
use Rattle.std.specs.Prelude.{ℕ, List, ◌++◌}
use Rattle.hp_event.specs.declared.event.Event.{Event}
use Rattle.hp_event.specs.declared.head.Head.{Head}
use Rattle.hp_model.specs.Summary.{summary}
use Rattle.hp_files.specs.StatesFile.{states}
use Rattle.hp_model.specs.JournalText.{journal_text}
use Rattle.hp_event.specs.declared.version.Version.TheVariants.{Two}
use Rattle.hp_print.specs.Report.{report_text}
use Rattle.hp_play.specs.declared.output.Output.{Output}
use Rattle.hp_play.specs.declared.output.Output.TheVariants.{Journal, Summary, States, Report, Count}
use Rattle.hp_play.specs.CountLine.{count_line}

abbrev pub output : Output → Head → List Event → List ℕ
output Journal head events = journal_text Two head events ++ summary head events
output Summary head events = summary head events
output States head events = states head events
output Report head events = report_text head events
output (Count counting) head events = count_line head counting.state counting.batch events

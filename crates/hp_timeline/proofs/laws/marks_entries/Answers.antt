use Rattle.hp_timeline.proofs.MarkLaws.{marks_entries}
use Rattle.hp_timeline.proofs.laws.marks_entries.Goals as goal

pub returns : goal.returns
returns c = marks_entries c.args.events.now c.args.window

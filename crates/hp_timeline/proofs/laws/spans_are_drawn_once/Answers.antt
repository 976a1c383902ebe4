use Rattle.hp_timeline.proofs.SpanLaws.{draws_spans}
use Rattle.hp_timeline.proofs.laws.spans_are_drawn_once.Goals as goal

pub returns : goal.returns
returns c = draws_spans c.args.head.now c.args.events.now c.args.window

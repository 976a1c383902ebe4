use Rattle.std.proofs.Common.{arith}
use Rattle.std.proofs.lemmas.Fmt.{decimal_digit}
use Rattle.hp_timeline.specs.Spans.{row_height}
use Rattle.hp_text.proofs.Pairs.{two_digits, two_more}
use Rattle.hp_timeline.proofs.span_text.append_size.Goals as goal

pub returns-in-Processor : goal.returns-in-Processor
unfolding row_height
returns-in-Processor c =
    rw (c.in-Processor.is, two_more 220 (omega arith) (omega arith), decimal_digit 2 (omega arith)) c.append_before.ensures

pub returns-in-Operations : goal.returns-in-Operations
unfolding row_height
returns-in-Operations c = rw (c.in-Operations.is, two_digits 78 (omega arith) (omega arith)) c.append_before-in-Operations.ensures

pub returns-in-Section : goal.returns-in-Section
unfolding row_height
returns-in-Section c = rw (c.in-Section.is, two_digits 18 (omega arith) (omega arith)) c.append_before-in-Section.ensures

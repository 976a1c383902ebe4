use Rattle.std.proofs.Common.{append_assoc, arith}
use Rattle.hp_text.proofs.Pairs.{four_more}
use Rattle.hp_timeline.proofs.text.push_decimal.Goals as goal

pub returns-else-number-lt-FEW-clause-text : goal.returns-else-number-lt-FEW-clause-text
returns-else-number-lt-FEW-clause-text c =
    rw (four_more c.args.number (omega arith) (omega arith))
    (simp (c.push_pair.ensures.text, c.push_first.ensures.text, append_assoc) at c.push_pair-else-number-lt-FEW.ensures.text)

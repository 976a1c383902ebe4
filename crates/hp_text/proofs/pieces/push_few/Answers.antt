use Rattle.std.proofs.Common.{append_assoc, arith}
use Rattle.hp_text.proofs.Pairs.{two_more}
use Rattle.hp_text.proofs.pieces.push_few.Goals as goal

pub returns-else-number-lt100-clause-text : goal.returns-else-number-lt100-clause-text
returns-else-number-lt100-clause-text c =
    rw (two_more c.args.number (omega arith) (omega arith))
    (simp (c.push_first-else-number-lt100.ensures.text, append_assoc) at c.push_pair.ensures.text)

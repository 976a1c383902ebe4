use Rattle.std.proofs.Common.{append_assoc}
use Rattle.hp_timeline.proofs.mark.push_spot.Goals as goal

pub returns-in-Up-clause-text : goal.returns-in-Up-clause-text
returns-in-Up-clause-text c =
    rw c.in-Up.is (simp (c.push_with-2.ensures.text, c.push_with.ensures.text, append_assoc) at c.push_with-in-Up.ensures.text)

pub returns-in-Down-clause-text : goal.returns-in-Down-clause-text
returns-in-Down-clause-text c =
    rw c.in-Down.is (simp (c.push_with-2.ensures.text, c.push_with.ensures.text, append_assoc) at c.push_with-in-Down.ensures.text)

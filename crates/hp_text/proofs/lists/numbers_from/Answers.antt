use Rattle.std.proofs.Common.{ap, ◌∙◌, Err}
use Rattle.hp_text.proofs.ListLoop.{past}
use Rattle.hp_text.proofs.lists.numbers_from.Goals as goal

pub returns-in-Err-OutOfRange : goal.returns-in-Err-OutOfRange
returns-in-Err-OutOfRange g c =
    let out = rw c.in-Err-OutOfRange.field-0-is at c.in-Err-OutOfRange.ensures.said in
    let here = rw c.in-Some.is at c.loop-next.invariant in
    ap (λ u. Err u) c.out_of_range.ensures ∙ past c.loop-next.numbers c.in-Some.word.now (g.W.Words.left c.loop-next.words) out ∙ here

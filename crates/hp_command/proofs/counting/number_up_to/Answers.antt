-- A number out of range isn't said by a word that says it.
use Rattle.std.proofs.Common.{arith}
use Rattle.hp_command.specs.Counting.{IsUpTo}
use Rattle.hp_command.proofs.CountingLaws.{none_up_to}
use Rattle.hp_command.proofs.counting.number_up_to.Goals as goal
use Rattle.hp_command.proofs.counting.number_up_to.Goals.{then-number-eq0-via-then-number-eq0, then-number-eq0-via-else-number-eq0+then-number-from}

pub returns-then-number-eq0-clause-none : goal.returns-then-number-eq0-clause-none
returns-then-number-eq0-clause-none c n says =
    let out : IsUpTo c.args.most c.in_ok-number.number → ⊥ =
    elim c.then-number-eq0.branch [
      | then-number-eq0-via-then-number-eq0 w ↦ λ up. let low = up.0 in let zero = w.if-number-eq0.true in absurd (omega arith)
      | then-number-eq0-via-else-number-eq0+then-number-from w ↦
          λ up. let high = up.1 in let above = w.if-number-from.true in let same = w.from.ensures in absurd (omega arith)
    ] in
    none_up_to c.args.most c.in_ok-number.number c.args.word.now (omega arith) (omega arith) c.in_ok-number.ensures.some out n says

use Rattle.std.proofs.Common.{ℕ, List, get_or, ap, ◌∙◌, arith}
use Rattle.hp_print.proofs.Loops.{zero_more}
use Rattle.hp_print.proofs.operation_numbers.OperationNumbers.reach.Goals as goal

pub loop-preserved : goal.loop-preserved
loop-preserved c =
    let before : List ℕ = c.loop.self.begun.items in
    record {
      same = λ k.
          ap (λ (xs : List ℕ). get_or xs k 0) c.in_ok-push.ensures.items ∙ zero_more before k ∙ c.loop.invariant.same k;
      longer = omega (arith, c.in_ok-push.ensures.len, c.loop.invariant.longer);
    }

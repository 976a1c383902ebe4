-- A number out of range isn't said by a word that says it.
use Rattle.std.proofs.Common.{arith}
use Rattle.hp_command.specs.Controlling.{AreThreads}
use Rattle.hp_command.proofs.ControllingLaws.{none_said}
use Rattle.hp_command.proofs.controlling.threads_of.Goals as goal
use Rattle.hp_command.proofs.controlling.threads_of.Goals.{then-number-lt2-via-then-number-lt2, then-number-lt2-via-else-number-lt2+then-number-gt8}

pub returns-then-number-lt2-clause-none : goal.returns-then-number-lt2-clause-none
returns-then-number-lt2-clause-none c n says =
    let out : AreThreads c.in_ok-number.number → ⊥ =
    elim c.then-number-lt2.branch [
      | then-number-lt2-via-then-number-lt2 w ↦ λ within. let low = within.0 in let few = w.if-number-lt2.true in absurd (omega arith)
      | then-number-lt2-via-else-number-lt2+then-number-gt8 w ↦
          λ within. let high = within.1 in let many = w.if-number-gt8.true in absurd (omega arith)
    ] in
    none_said c.in_ok-number.number c.args.word.now (omega arith) c.in_ok-number.ensures.some out n says

use Rattle.std.proofs.Common.{subst}
use Rattle.hp_board.specs.Contents.{Contents}
use Rattle.hp_board.specs.Loans.{loan, IsLoan}
use Rattle.std.specs.Prelude.{◌≡◌, Some, ℕ}
use Rattle.hp_event.specs.declared.aside.Aside.{Aside}
use Rattle.hp_board.proofs.Loans.{loan_facts}
use Rattle.hp_board.proofs.board.Board.sound.Goals as goal

pub returns-clause-loans : goal.returns-clause-loans
returns-clause-loans g c =
    subst (λ (b : Contents). (k : ℕ) (a : Aside) → loan b k ≡ Some a → IsLoan b.head b.events k a) c.self.view_is
    (λ k a is. loan_facts c.self.inside.machine k a c.sound.ensures.lawful c.sound.ensures.table c.self.invariant.out is)

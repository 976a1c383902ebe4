-- What is lent stays lent.
use Rattle.std.proofs.Common.{◌≡◌, ℕ}
use Rattle.hp_board.specs.Loans.{loan}
use Rattle.hp_board_tests.proofs.play.lends_none.Given as goal

abbrev pub invariant-loop-by : goal.invariant-loop-by
invariant-loop-by g l = (k : ℕ) → loan l.board k ≡ loan l.initial.board k

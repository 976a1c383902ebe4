-- What is lent stays lent.
use Rattle.std.proofs.Common.{◌≡◌, ℕ}
use Rattle.hp_board.specs.Loans.{loan}
use Rattle.hp_board_tests.proofs.play.plays.Given as goal

abbrev pub invariant-loop-step : goal.invariant-loop-step
invariant-loop-step g l = (k : ℕ) → loan l.board k ≡ loan l.initial.board k

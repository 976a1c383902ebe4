use Rattle.std.proofs.Common.{ℕ, ◌+◌, ◌≡◌, length}
use Rattle.hp_hint.specs.Forms.{IsGood, are_rising}
use Rattle.hp_hint.proofs.rising.good_above.Given as goal

-- how many of all rise follows from how many of those left do
abbrev pub invariant-loop-word : goal.invariant-loop-word
invariant-loop-word g l = record {
  rest : (n m : ℕ) → IsGood (are_rising l.low l.limit) (g.W.Words.left l.words) n → m ≡ l.good + n → IsGood (are_rising l.fn.low l.limit) (g.W.Words.left l.fn.words) m;
  count : l.good + length (g.W.Words.left l.words) ≡ length (g.W.Words.left l.fn.words);
}

abbrev pub decreases-loop-word : goal.decreases-loop-word
decreases-loop-word g l = length (g.W.Words.left l.words)

use Rattle.std.proofs.Common.{ℕ, ◌+◌, ◌≡◌, length}
use Rattle.std.specs.List.{list_all}
use Rattle.hp_hint.specs.Forms.{IsGood, fits}
use Rattle.hp_hint.proofs.form.good_more.Given as goal

-- how many of all are good follows from how many of those left are
abbrev pub invariant-loop-word : goal.invariant-loop-word
invariant-loop-word g l = record {
  rest : (n m : ℕ) → IsGood (list_all (fits l.measure l.field)) (g.W.Words.left l.words) n → m ≡ l.good + n → IsGood (list_all (fits l.measure l.field)) (g.W.Words.left l.fn.words) m;
  count : l.good + length (g.W.Words.left l.words) ≡ length (g.W.Words.left l.fn.words);
}

abbrev pub decreases-loop-word : goal.decreases-loop-word
decreases-loop-word g l = length (g.W.Words.left l.words)

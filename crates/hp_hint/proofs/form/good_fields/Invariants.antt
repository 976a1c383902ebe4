use Rattle.std.proofs.Common.{ℕ, ◌+◌, ◌≡◌, length, drop}
use Rattle.hp_hint.specs.Forms.{IsGood, are_fields}
use Rattle.hp_hint.proofs.form.good_fields.Given as goal

-- how many of all are good follows from how many of those left are
abbrev pub invariant-loop-field : goal.invariant-loop-field
invariant-loop-field g l = record {
  rest : (n m : ℕ) → IsGood (are_fields l.measure (drop l.field-index l.fields) l.ending) (g.W.Words.left l.words) n → m ≡ l.good + n → IsGood (are_fields l.measure l.fields l.ending) (g.W.Words.left l.fn.words) m;
  count : l.good + length (g.W.Words.left l.words) ≡ length (g.W.Words.left l.fn.words);
}

use Rattle.std.proofs.Common.{◌≡◌, ℕ, ◌<◌, ◌^◌, List, [], ◌∷◌, Some, ap, ◌∙◌}
use Rattle.std.specs.Prelude.{codes, decimal}
use Rattle.hp_model.specs.Words.{line}
use Rattle.hp_replay.specs.EndAt.{end_at}
use Rattle.hp_replay.proofs.HeadLaws.{end_takes, end_again}
use Rattle.hp_replay.proofs.laws.end_line.Goals as goal

reads : (l : List ℕ) (n : ℕ) → n < 2 ^ 64 → l ≡ line (codes "end" ∷ decimal n ∷ []) → end_at l ≡ Some n
reads l n lt h = ap end_at h ∙ end_again n lt

pub returns : goal.returns
returns c = λ n lt. (λ h. end_takes c.args.bytes.now n lt h, λ h. reads c.args.bytes.now n lt h)

use Rattle.std.proofs.Common.{◌≡◌, ℕ, ◌≤◌, List, [], ◌∷◌, Some, ap, ◌∙◌, arith}
use Rattle.std.specs.Prelude.{codes, decimal}
use Rattle.hp_event.specs.declared.version.Version.{Version}
use Rattle.hp_model.specs.Words.{line}
use Rattle.hp_replay.specs.Versions.{most_cpus}
use Rattle.hp_replay.specs.HeadLines.{cpus_at}
use Rattle.hp_replay.proofs.HeadLaws.{cpus_takes, cpus_again}
use Rattle.hp_replay.proofs.laws.cpus_line.Goals as goal

takes : (v : Version) (l : List ℕ) (n : ℕ) → cpus_at v l ≡ Some n → (1 ≤ n) × (n ≤ most_cpus v) × (l ≡ line (codes "cpus" ∷ decimal n ∷ []))
takes v l n h = let t = cpus_takes v l n h in (t.1.0, omega (arith, t.1.1), t.0)

again : (v : Version) (l : List ℕ) (n : ℕ) → (1 ≤ n) × (n ≤ most_cpus v) × (l ≡ line (codes "cpus" ∷ decimal n ∷ [])) → cpus_at v l ≡ Some n
again v l n h = ap (cpus_at v) h.2 ∙ cpus_again v n (h.0, omega (arith, h.1))

pub returns : goal.returns
returns c = λ v n. (λ h. takes v c.args.bytes.now n h, λ h. again v c.args.bytes.now n h)

use Rattle.std.proofs.Common.{rules, ◌≡◌, ◌<◌, ◌≤◌, ◌∙◌, ℕ, List, [], ◌∷◌, true, false, length, codes, sym, ap, arith}
use Rattle.hp_replay.specs.WordsLeft.{pieces, words_left}
use Rattle.hp_replay.proofs.WordForms.{lone_word}
use Rattle.hp_replay.proofs.words.Words.are_ok.Goals as goal

shorter : (bs : List ℕ) → length bs < 2 → pieces bs ≡ codes "ok" ∷ [] → ⊥
shorter bs short e = let two : length bs ≡ 2 = lone_word bs (codes "ok") e in absurd (omega (arith, short, two))

longer : (bs : List ℕ) → 3 ≤ length bs → pieces bs ≡ codes "ok" ∷ [] → ⊥
longer bs long e = let two : length bs ≡ 2 = lone_word bs (codes "ok") e in absurd (omega (arith, long, two))

pub returns-in_default : goal.returns-in_default
returns-in_default c =
    let short : length c.in_default.field-0.now < 2 = search rules in (
      λ h. let bad : false ≡ true = h in absurd cc,
      λ e. absurd (shorter c.in_default.field-0.now short (ap (λ left. words_left left) (sym c.in_default.is) ∙ c.self.view_is ∙ e)),
    )

pub returns-in_default-4 : goal.returns-in_default-4
returns-in_default-4 c =
    let long : 3 ≤ length c.in_default.field-0.now = search rules in (
      λ h. let bad : false ≡ true = h in absurd cc,
      λ e. absurd (longer c.in_default.field-0.now long (ap (λ left. words_left left) (sym c.in_default.is) ∙ c.self.view_is ∙ e)),
    )

use Rattle.std.proofs.Common.{◌≡◌, codes, decimal, sym, ◌∙◌}
use Rattle.std.proofs.lemmas.Bool.Decides.{Decides-eqb}
use Rattle.std.proofs.lemmas.Slice.Eq.{slice_eq-Decides}
use Rattle.hp_run.proofs.Spoken.{one_word, two_words}
use Rattle.hp_run.proofs.command.command_of.Goals as goal

pub returns-then-eq-clause-some : goal.returns-then-eq-clause-some
returns-then-eq-clause-some c =
    let word : c.as_str.result.now ≡ codes "run" = (slice_eq-Decides Decides-eqb _ _ c.eq.result c.eq.ensures).0 c.if-eq.true in
    one_word c.args.words.now c.index-words-0.result (codes "run") c.if-words-eq1.true c.index-words-0.is (sym c.as_str.ensures.value ∙ word)

pub returns-then-eq-2-clause-some : goal.returns-then-eq-2-clause-some
returns-then-eq-2-clause-some c =
    let word : c.as_str-then-words-eq2.result.now ≡ codes "work" =
    (slice_eq-Decides Decides-eqb _ _ c.eq-then-words-eq2.result c.eq-then-words-eq2.ensures).0 c.if-eq-2.true in
    let said = c.in_ok-state.ensures.some in (
      two_words c.args.words.now c.index-words-0-then-words-eq2.result c.index-words-1.result (codes "work") (decimal c.in_ok-state.state)
          c.if-words-eq2.true c.index-words-0-then-words-eq2.is c.index-words-1.is (sym c.as_str-then-words-eq2.ensures.value ∙ word)
          (sym c.as_str-then-eq-2.ensures.value ∙ said.0),
      said.1,
    )

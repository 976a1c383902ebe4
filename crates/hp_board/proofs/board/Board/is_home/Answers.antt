use Rattle.std.proofs.Common.{◌≡◌, ◌↔◌, Bool, true, false, IsTrue, ◌∙◌, refl, ap, sym, subst}
use Rattle.std.proofs.lemmas.Bool.{true≢false}
use Rattle.hp_states.specs.CpuSets.{has}
use Rattle.hp_states.specs.declared.cpu_set.CpuSet.{CpuSet}
use Rattle.hp_table.specs.Step.{AllHome}
use Rattle.hp_board.specs.Contents.{Contents}
use Rattle.hp_board.proofs.Loans.{home_of_none, none_of_home}
use Rattle.hp_board.proofs.board.Board.is_home.Goals as goal

pub returns : goal.returns
returns g c =
    let b = c.self.inside.machine in
    subst (λ (b : Contents). IsTrue c.is_empty.result ↔ AllHome b.places) c.self.view_is (
      λ empty. home_of_none b c.self.invariant.out
          (λ cpu. ap (λ (s : CpuSet). has s cpu) (sym c.lent.ensures) ∙ c.is_empty.ensures.empty empty cpu),
      λ all. go c.is_empty.result refl (λ some. let h = c.is_empty.ensures.some some in
          true≢false (sym h.2 ∙ (ap (λ (s : CpuSet). has s h.0) c.lent.ensures ∙ none_of_home b c.self.invariant.out all h.0))),
    )
  where
    go : (r : Bool) → c.is_empty.result ≡ r → (c.is_empty.result ≡ false → ⊥) → c.is_empty.result ≡ true
    go true is never = is
    go false is never = absurd (never is)

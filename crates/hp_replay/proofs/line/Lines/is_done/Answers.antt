use Rattle.std.proofs.Common.{◌∙◌, length, sym, ap}
use Rattle.std.proofs.lemmas.Bool.{eqb-true, eq-eqb}
use Rattle.hp_replay.specs.LinesLeft.{LinesLeft}
use Rattle.hp_replay.proofs.LineForms.{nothing_left, left_nothing}
use Rattle.hp_replay.proofs.line.Lines.is_done.Goals as goal

pub returns : goal.returns
returns c =
    let rest = c.self.inside.rest.now in
    let left = ap (λ (l : LinesLeft). l.lines) c.self.view_is in (
      λ is. sym left ∙ nothing_left rest (eqb-true (length rest) 0 (sym c.is_empty.ensures ∙ is)),
      λ none. c.is_empty.ensures ∙ eq-eqb (length rest) 0 (left_nothing rest (left ∙ none)),
    )

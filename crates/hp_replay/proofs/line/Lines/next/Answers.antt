use Rattle.std.proofs.Common.{length, sym, ap, ◌∙◌}
use Rattle.std.proofs.lemmas.Bool.{eqb-true}
use Rattle.hp_replay.specs.LinesLeft.{LinesLeft}
use Rattle.hp_replay.proofs.LineForms.{nothing_left}
use Rattle.hp_replay.proofs.line.Lines.next.Goals as goal

pub returns-then-is_empty : goal.returns-then-is_empty
returns-then-is_empty c = record {
  line = sym (ap (λ (left : LinesLeft). left.lines) c.self.view_is) ∙ nothing_left c.self.inside.rest.now (eqb-true (length c.self.inside.rest.now) 0 (sym c.if-is_empty.ensures));
}

use Rattle.std.proofs.Common.{sym, ap, ◌∙◌}
use Rattle.hp_trace.specs.Pieces.{is_none_left, pieces_left}
use Rattle.hp_trace.proofs.PieceForms.{more_left}
use Rattle.hp_trace.proofs.pieces.Pieces.is_done.Goals as goal

pub returns-in-Some : goal.returns-in-Some
returns-in-Some c = more_left c.self.inside.by c.in-Some.field-0.now ∙ ap (λ left. is_none_left (pieces_left c.self.inside.by left)) (sym c.in-Some.is) ∙ ap (λ ws. is_none_left ws) c.self.view_is

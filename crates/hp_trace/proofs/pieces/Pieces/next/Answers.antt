use Rattle.std.proofs.Common.{sym, ap, ◌∙◌, length}
use Rattle.std.proofs.lemmas.Bool.{eqb-true}
use Rattle.hp_trace.specs.Pieces.{first_of, others_of, pieces_left}
use Rattle.hp_trace.proofs.PieceForms.{none_before, at_one, without}
use Rattle.hp_trace.proofs.pieces.Pieces.next.Goals as goal

pub returns-in-Some-clause-piece : goal.returns-in-Some-clause-piece
returns-in-Some-clause-piece c =
    let by = c.self.inside.by in
    let bytes = c.in_ok-bytes.bytes.now in
    let split = at_one by bytes c.in-Some.at c.in-Some.ensures.0.high (eqb-true _ _ c.in-Some.ensures.1) (none_before by bytes c.in-Some.at c.in-Some.ensures.0.before) in
    sym (ap first_of split) ∙ ap (λ left. first_of (pieces_left by left)) (sym (c.in_ok-bytes.was {u = tt})) ∙ ap first_of c.self.view_is

pub returns-in-Some-clause-rest : goal.returns-in-Some-clause-rest
returns-in-Some-clause-rest c =
    let by = c.self.inside.by in
    let bytes = c.in_ok-bytes.bytes.now in
    let split = at_one by bytes c.in-Some.at c.in-Some.ensures.0.high (eqb-true _ _ c.in-Some.ensures.1) (none_before by bytes c.in-Some.at c.in-Some.ensures.0.before) in
    sym (ap others_of split) ∙ ap (λ left. others_of (pieces_left by left)) (sym (c.in_ok-bytes.was {u = tt})) ∙ ap others_of c.self.view_is

pub returns-in-None-clause-piece : goal.returns-in-None-clause-piece
returns-in-None-clause-piece c =
    let by = c.self.inside.by in
    let bytes = c.in_ok-bytes.bytes.now in
    let split = without by bytes (none_before by bytes (length bytes) c.in-None.ensures) in
    sym (ap first_of split) ∙ ap (λ left. first_of (pieces_left by left)) (sym (c.in_ok-bytes.was {u = tt})) ∙ ap first_of c.self.view_is

pub returns-in-None-clause-rest : goal.returns-in-None-clause-rest
returns-in-None-clause-rest c =
    let by = c.self.inside.by in
    let bytes = c.in_ok-bytes.bytes.now in
    let split = without by bytes (none_before by bytes (length bytes) c.in-None.ensures) in
    sym (ap others_of split) ∙ ap (λ left. others_of (pieces_left by left)) (sym (c.in_ok-bytes.was {u = tt})) ∙ ap others_of c.self.view_is

use Rattle.std.proofs.Common.{is_some, ◌∙◌, ap, sym}
use Rattle.hp_states.specs.CpuSets.{has}
use Rattle.hp_board.specs.Contents.{Contents}
use Rattle.hp_board.specs.Loans.{loan}
use Rattle.hp_board.proofs.Loans.{has_lent_by}
use Rattle.hp_board.proofs.board.Board.has_lent.Goals as goal

pub returns-in-Some : goal.returns-in-Some
returns-in-Some g c =
    let b = c.self.inside.machine in
    c.is_lent.ensures
    ∙ (ap (λ (b : Contents). has b.lent c.in-Some.entry.cpu) (sym c.self.view_is)
    ∙ (sym (has_lent_by b c.args.by c.in-Some.entry c.sound.ensures.lawful c.self.invariant.out c.in-Some.ensures)
    ∙ ap (λ (b : Contents). is_some (loan b c.args.by)) c.self.view_is))

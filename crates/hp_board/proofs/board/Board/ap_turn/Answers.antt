use Rattle.std.proofs.Common.{◌≡◌, ◌↔◌, ℕ, Some, subst}
use Rattle.hp_model.specs.ApTurn.{IsApTurn}
use Rattle.hp_board.specs.Contents.{Contents}
use Rattle.hp_board.proofs.board.Board.ap_turn.Goals as goal

pub returns : goal.returns
returns g c =
    subst (λ (b : Contents). (cpu : ℕ) → IsApTurn b.head b.events c.args.seat cpu ↔ (c.ap_turn.result ≡ Some cpu)) c.self.view_is
    c.ap_turn.ensures

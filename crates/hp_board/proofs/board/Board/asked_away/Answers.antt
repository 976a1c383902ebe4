use Rattle.std.proofs.Common.{◌≡◌, ℕ, true, ap, Some, ◌∙◌, sym, subst}
use Rattle.hp_states.proofs.Basics.{none_some, same_some, on_none}
use Rattle.hp_model.specs.ApTurn.{IsApTurn}
use Rattle.hp_table.specs.Step.{step_at, is_home}
use Rattle.hp_account.specs.UnderWay.{hook_asked}
use Rattle.hp_board.specs.Contents.{Contents}
use Rattle.hp_board.proofs.board.Board.asked_away.Goals as goal

pub returns-in_err-state-clause-none : goal.returns-in_err-state-clause-none
returns-in_err-state-clause-none g c =
    on_none c.from_residual.result _
    (subst
    (λ (b : Contents).
    (seat s : ℕ) (turn : IsApTurn b.head b.events seat c.args.cpu) → hook_asked turn.state turn.how ≡ Some s →
    is_home (step_at b.places s) ≡ true)
    c.self.view_is
    (λ seat s turn asks. absurd (none_some s (c.in_err-state.ensures seat turn ∙ asks))))

pub returns-then-is_home-clause-none : goal.returns-then-is_home-clause-none
returns-then-is_home-clause-none g c =
    subst
    (λ (b : Contents).
    (seat s : ℕ) (turn : IsApTurn b.head b.events seat c.args.cpu) → hook_asked turn.state turn.how ≡ Some s →
    is_home (step_at b.places s) ≡ true)
    c.self.view_is
    (λ seat s turn asks.
    let same = same_some c.in_ok-state.state s (c.in_ok-state.ensures seat turn ∙ asks) in
    let home : is_home (step_at c.self.inside.machine.places c.in_ok-state.state) ≡ true =
    ap (λ p. is_home (step_at p c.in_ok-state.state)) (sym c.table.ensures) ∙ (sym c.is_home.ensures ∙ c.if-is_home.true) in
    ap (λ t. is_home (step_at c.self.inside.machine.places t)) (sym same) ∙ home)

pub returns-clause-asks : goal.returns-clause-asks
returns-clause-asks g c =
    subst
    (λ (b : Contents).
    (seat : ℕ) (turn : IsApTurn b.head b.events seat c.args.cpu) → hook_asked turn.state turn.how ≡ Some c.in_ok-state.state)
    c.self.view_is
    (λ seat turn. sym (c.in_ok-state.ensures seat turn))

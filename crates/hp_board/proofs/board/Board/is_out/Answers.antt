use Rattle.std.proofs.Common.{◌≡◌, Bool, true, false, not, refl, ap, sym, ◌∙◌}
use Rattle.std.proofs.lemmas.Bool.{true≢false, false≢true}
use Rattle.hp_table.specs.Step.{step_at, is_home}
use Rattle.hp_board.specs.Contents.{Contents}
use Rattle.hp_board.proofs.board.Board.is_out.Goals as goal

is_away : (b : Bool) → not b ≡ true → b ≡ false
is_away true h = absurd (false≢true h)
is_away false h = refl

is_there : (b : Bool) → not b ≡ false → b ≡ true
is_there true h = refl
is_there false h = absurd (true≢false h)

pub returns-then-is_by_hook-clause-away : goal.returns-then-is_by_hook-clause-away
returns-then-is_by_hook-clause-away g c = λ out.
    let s = c.args.entry.now.key.state in
    ap (λ (b : Contents). is_home (step_at b.places s)) (sym c.self.view_is)
    ∙ (sym (c.is_home.ensures ∙ ap (λ p. is_home (step_at p s)) c.table.ensures) ∙ is_away c.is_home.result out)

pub returns-then-is_by_hook-clause-home : goal.returns-then-is_by_hook-clause-home
returns-then-is_by_hook-clause-home g c = λ home by_hook.
    let s = c.args.entry.now.key.state in
    ap (λ (b : Contents). is_home (step_at b.places s)) (sym c.self.view_is)
    ∙ (sym (c.is_home.ensures ∙ ap (λ p. is_home (step_at p s)) c.table.ensures) ∙ is_there c.is_home.result home)

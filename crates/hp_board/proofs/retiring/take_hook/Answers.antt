use Rattle.std.proofs.Common.{◌≡◌, Option, Some, None, refl, ap, ◌∙◌}
use Rattle.hp_table.specs.Step.{Step, step_at, bare, changed, is_home}
use Rattle.hp_table.proofs.Places.{step_at-changed_same}
use Rattle.hp_board.proofs.retiring.take_hook.Goals as goal

bare_home : (place : Option Step) → is_home (changed (λ step. bare step.kept) place) ≡ is_home place
bare_home None = refl
bare_home (Some step) = refl

pub uninstall-requires : goal.uninstall-requires
uninstall-requires g c =
    let places = c.args.table.now in
    ap (λ t. is_home (step_at t c.args.state)) c.clear_instances.ensures
    ∙ (ap is_home (step_at-changed_same places c.args.state (λ step. bare step.kept))
    ∙ (bare_home (step_at places c.args.state) ∙ c.requires))

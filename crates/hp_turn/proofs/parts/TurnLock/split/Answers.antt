use Rattle.std.proofs.Common.{rules, ap, ◌∙◌}
use Rattle.hp_turn.proofs.Passing.{splits}
use Rattle.hp_turn.proofs.parts.TurnLock.split.Goals as goal

pub split_seat-requires : goal.split_seat-requires
split_seat-requires g c = (
  search rules,
  search rules,
  splits g.V.Grown.head g.V.Grown.story g.V.Grown.aside _ _ c.pass.invariant.0 c.pass.invariant.1
      (ap (λ w. w.held) c.pass.view_is ∙ c.requires.1),
)

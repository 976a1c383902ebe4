use Rattle.std.proofs.Common.{arith, append_assoc}
use Rattle.hp_timeline.specs.Frame.{tick_name}
use Rattle.hp_timeline.proofs.frame.append_tick_name.Goals as goal

pub overflow_add-bottom : goal.overflow_add-bottom
overflow_add-bottom c = omega (arith, c.bottom.ensures.small)

pub returns : goal.returns
unfolding tick_name
returns c =
    simp (
      c.in_ok-append_two_before.ensures,
      c.bottom.ensures.value,
      c.saturating_sub.ensures,
      c.middle-at.ensures.value,
      append_assoc,
    ) at c.append_before.ensures

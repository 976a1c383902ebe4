use Rattle.std.proofs.Common.{append_assoc}
use Rattle.hp_timeline.specs.Frame.{lane_box}
use Rattle.hp_timeline.proofs.frame.append_lane_box.Goals as goal

pub returns : goal.returns
unfolding lane_box
returns c =
    simp (
      c.lane_width-2.ensures.value,
      c.in_ok-append_with-3.ensures,
      c.lane_width.ensures.value,
      c.in_ok-append_with-2.ensures,
      c.lane_top.ensures.value,
      c.in_ok-append_with.ensures,
      append_assoc,
    ) at c.append.ensures

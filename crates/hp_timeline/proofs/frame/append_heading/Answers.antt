use Rattle.std.proofs.Common.{append_assoc}
use Rattle.hp_timeline.specs.Frame.{heading_text}
use Rattle.hp_timeline.proofs.frame.append_heading.Goals as goal

pub returns : goal.returns
unfolding heading_text
returns c =
    simp (
      c.in_ok-append_with-2.ensures,
      c.in_ok-append_range.ensures,
      c.in_ok-append.ensures,
      c.in_ok-append_with.ensures,
      append_assoc,
    ) at c.append-2.ensures

use Rattle.std.proofs.Common.{append_assoc}
use Rattle.hp_timeline.specs.Frame.{size_text}
use Rattle.hp_timeline.proofs.frame.append_size.Goals as goal

pub returns : goal.returns
unfolding size_text
returns c =
    simp (
      c.in_ok-append_with-4.ensures,
      c.in_ok-append_with-3.ensures,
      c.in_ok-append_with-2.ensures,
      c.in_ok-append_with.ensures,
      append_assoc,
    ) at c.append.ensures

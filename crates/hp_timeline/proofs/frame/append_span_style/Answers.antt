use Rattle.std.proofs.Common.{append_assoc}
use Rattle.hp_timeline.specs.Frame.{span_style}
use Rattle.hp_timeline.proofs.frame.append_span_style.Goals as goal

pub returns : goal.returns
unfolding span_style
returns c =
    simp (
      c.in_ok-append-3.ensures,
      c.in_ok-append-2.ensures,
      c.in_ok-append.ensures,
      append_assoc,
    ) at c.append-4.ensures

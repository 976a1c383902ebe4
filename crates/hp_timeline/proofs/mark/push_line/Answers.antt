use Rattle.std.proofs.Common.{append_assoc}
use Rattle.hp_timeline.proofs.mark.push_line.Goals as goal

pub returns-in-Up : goal.returns-in-Up
returns-in-Up c =
    rw c.in-Up.is
    (simp (
      c.push_with_few-4.ensures.text,
      c.push_with_few-3.ensures.text,
      c.push_with_few-2.ensures.text,
      c.push_with_few.ensures.text,
      append_assoc,
    ) at c.push.ensures.text)

pub returns-in-Down : goal.returns-in-Down
returns-in-Down c =
    rw c.in-Down.is
    (simp (
      c.push_with_few-4.ensures.text,
      c.push_with_few-3.ensures.text,
      c.push_with_few-2.ensures.text,
      c.push_with_few.ensures.text,
      append_assoc,
    ) at c.push-in-Down.ensures.text)

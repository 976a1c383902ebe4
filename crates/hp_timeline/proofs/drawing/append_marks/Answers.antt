use Rattle.std.specs.Prelude.{slice_get}
use Rattle.hp_timeline.specs.Marks.{marked, mark_text}
use Rattle.hp_timeline.proofs.Lasting.{drawn_none}
use Rattle.hp_timeline.proofs.drawing.append_marks.Goals as goal

pub loop-place-init : goal.loop-place-init
loop-place-init c =
    drawn_none (mark_text c.args.window c.args.events.now) (λ k. marked k (slice_get c.args.events.now k)) c.args.window.before
    c.args.out.now.items

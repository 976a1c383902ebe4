use Rattle.std.proofs.Common.{◌≡◌, ◌++◌}
use Rattle.std.specs.Prelude.{slice_get}
use Rattle.std.specs.List.{flat_map}
use Rattle.hp_timeline.specs.Windows.{places_between}
use Rattle.hp_timeline.specs.Marks.{marked, mark_text}
use Rattle.hp_timeline.proofs.drawing.append_marks.Given as goal

abbrev pub invariant-loop-place : goal.invariant-loop-place
invariant-loop-place l =
    l.out.items
    ≡ l.initial.out.items
    ++ flat_map (mark_text l.window l.events)
    (flat_map (λ k. marked k (slice_get l.events k)) (places_between l.window.before l.place))
